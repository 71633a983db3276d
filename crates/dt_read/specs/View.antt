-- What the code's tokens and positions stand for.
use Rattle.std.specs.Prelude.{◌≡◌, ℕ, true, List, Option, Some, None}
use Rattle.std.specs.Str.{bytes_eq}
use Rattle.dt_read.specs.declared.token.Token.{Token}
use Rattle.dt_read.specs.declared.token.Token.TheVariants as code
use Rattle.dt_read.specs.declared.token.Tag.{Tag}
use Rattle.dt_read.specs.declared.token.Tag.TheVariants as tags
use Rattle.dt_read.specs.declared.property.Sought.{Sought}
use Rattle.dt_read.specs.declared.property.Sought.TheVariants as seen
use Rattle.dt_read.specs.declared.scan.ScanState.{ScanState}
use Rattle.dt_model.specs.Format as model
use Rattle.dt_read.specs.Marks.{Mark, mark_at, Takes}
use Rattle.dt_model.specs.Checks as checks
use Rattle.dt_model.specs.Tree.{Property}

-- a token, without where it lies in memory
abbrev pub view : Token → model.Token
view (code.BeginNode name) = model.begin_node name.now
view code.EndNode = model.end_node
view (code.Property name value) = model.prop (record { name = name.now; value = value.now })
view code.Nop = model.nop
view code.End = model.end_tree

-- where a token is
abbrev pub position_of : ScanState → checks.Position
position_of p = record { depth = p.depth; late = p.late; nodes = p.nodes }

-- a token at a place
abbrev pub view_at : ℕ → Token → Mark
view_at at token = mark_at at (view token)

-- the token, whose property, if it is one, is this
abbrev pub tag_view : Tag → Property → model.Token
tag_view (tags.BeginNode name) p = model.begin_node name.now
tag_view tags.EndNode p = model.end_node
tag_view (tags.Property bytes) p = model.prop p
tag_view tags.Nop p = model.nop
tag_view tags.End p = model.end_tree

abbrev pub tag_mark : ℕ → Tag → Property → Mark
tag_mark at tag p = mark_at at (tag_view tag p)

-- what was read is this token, but for the texts of a property, and it takes so many bytes
abbrev pub IsTagIn : Option (Tag × ℕ) → model.Token × ℕ → Type 0
IsTagIn None token = ⊥
IsTagIn (Some tag) token = (p : Property) × (tag_view tag.0 p ≡ token.0) × (tag.1 ≡ token.1)

-- a property has the bytes from its token on
abbrev pub IsInFront : Tag → List ℕ → Type 0
IsInFront (tags.Property own) bytes = own.now ≡ bytes
IsInFront tag bytes = Unit {0}

-- its token is that of this property
abbrev pub HasToken : List ℕ → Tag → Property → Type 0
HasToken strings (tags.Property own) p = (n : ℕ) × Takes strings own.now (model.prop p) n
HasToken strings tag p = Unit {0}

-- the token that a search sees, whose property, if it is one, is this
abbrev pub sought_view : Sought → Property → model.Token
sought_view (seen.BeginNode name) p = model.begin_node name.now
sought_view seen.EndNode p = model.end_node
sought_view (seen.Named value) p = model.prop p
sought_view seen.End p = model.end_tree

-- it has that name, and the value
abbrev pub IsSought : List ℕ → Sought → Property → Type 0
IsSought name (seen.Named value) p = (bytes_eq name p.name ≡ true) × (value.now ≡ p.value)
IsSought name sought p = Unit {0}
