-- Where there is no room behind a tree, there is none behind those that it follows.
use Rattle.dt_model.specs.Tree.{Reading}
use Rattle.dt_overlay_base.specs.Targets.{HasNoRoom}

pub behind : {X : Type 0} (reads : X → Reading) (has_room : X → Reading → Type 0) (follows : X → X → Type 0) → ((a b c : X) → follows a b → follows b c → follows a c)
    → (first now : X) → follows first now → (t next : Reading) → HasNoRoom reads has_room follows now t next → HasNoRoom reads has_room follows first t next
behind reads has_room follows trans first now before t next full = (full.0, trans first now full.0 before full.1, full.2, full.3)
