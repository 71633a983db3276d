-- The least numbers that are free.
use Rattle.std.specs.Prelude.{◌≡◌, ℕ, List}
use Rattle.dt_model.specs.Path.{Path}
use Rattle.dt_model.specs.Numbers.{AreNumbers}

-- there are least free numbers for any nodes
abbrev pub NumbersAreThere : Type 0
NumbersAreThere = (taken : List ℕ) (paths : List Path) → (numbers : List (Path × ℕ)) × AreNumbers taken paths numbers

-- and they are the only ones
abbrev pub NumbersAreOne : Type 0
NumbersAreOne = (taken : List ℕ) (paths : List Path) (numbers others : List (Path × ℕ)) → AreNumbers taken paths numbers
    → AreNumbers taken paths others → numbers ≡ others
