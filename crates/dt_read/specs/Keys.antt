-- What has to differ in a blob, in the order of its tokens (Devicetree Specification v0.4, 2.2 and 2.3.3).
use Rattle.std.specs.Prelude.{ℕ, zero, suc, ◌<◌, ◌-◌, Bool, true, false, List, [], ◌∷◌, ◌++◌, drop, Option, Some, None, codes, if◌then◌else◌}
use Rattle.std.proofs.Common.{◌≡◌, refl, ap}
use Rattle.std.specs.Coded.{Coded, code_by, coded×, coded_ℕ, coded_list}
use Rattle.std.specs.Str.{bytes_eq}
use Rattle.dt_model.specs.Limits.{most_bodies}
use Rattle.dt_read.specs.Marks.{Mark, begin_mark, end_mark, prop_mark, nop_mark, last_mark, Root, marks_of}
use Rattle.dt_read.specs.declared.keys.Sort.{Sort}
use Rattle.dt_read.specs.declared.keys.Sort.TheVariants.{Child, Property, Phandle}
use Rattle.dt_read.specs.declared.keys.Wanted.{Wanted}
use Rattle.dt_read.specs.declared.keys.Wanted.TheVariants.{Names, Children, Own, Phandles}
use Rattle.dt_read.specs.declared.keys.Key as code

-- bytes that differ from all others of their sort and of their owner, which is the node in which names stand
pub record Key : Type 0 where
  pub sort : Sort
  pub owner : ℕ
  pub bytes : List ℕ

-- a key, without where it lies in memory
abbrev pub said : code.Key → Key
said k = record { sort = k.sort; owner = k.owner; bytes = k.bytes.now }

-- the key that a token gives, where the open nodes have these places, the innermost first
abbrev pub key_of : Wanted → List ℕ → Mark → Option Key
key_of Names (owner ∷ open_nodes) (begin_mark place name) = Some (record { sort = Child; owner = owner; bytes = name })
key_of Names (owner ∷ open_nodes) (prop_mark p) = Some (record { sort = Property; owner = owner; bytes = p.name })
key_of Children (owner ∷ open_nodes) (begin_mark place name) = Some (record { sort = Child; owner = owner; bytes = name })
key_of Own (owner ∷ open_nodes) (prop_mark p) = Some (record { sort = Property; owner = owner; bytes = p.name })
key_of Phandles open_nodes (prop_mark p) =
    if bytes_eq (codes "phandle") p.name then Some (record { sort = Phandle; owner = 0; bytes = p.value }) else None
key_of wanted open_nodes mark = None

-- the places of the nodes that are open behind a token
abbrev pub open_behind : List ℕ → Mark → List ℕ
open_behind open_nodes (begin_mark place name) = place ∷ open_nodes
open_behind open_nodes end_mark = drop 1 open_nodes
open_behind open_nodes (prop_mark p) = open_nodes
open_behind open_nodes nop_mark = open_nodes
open_behind open_nodes last_mark = open_nodes

abbrev pub with_key : Option Key → List Key → List Key
with_key None keys = keys
with_key (Some key) keys = key ∷ keys

-- a node's own keys end where its properties do
abbrev pub ends : Wanted → Mark → Bool
ends Own (begin_mark place name) = true
ends Own end_mark = true
ends Own last_mark = true
ends wanted mark = false

-- the keys of some tokens
abbrev pub keys_in : Wanted → List ℕ → List Mark → List Key
keys_in wanted open_nodes [] = []
keys_in wanted open_nodes (mark ∷ marks) =
    if ends wanted mark then [] else with_key (key_of wanted open_nodes mark) (keys_in wanted (open_behind open_nodes mark) marks)

-- those of a tree
abbrev pub keys_of : Wanted → Root → List Key
keys_of wanted tree = keys_in wanted [] (marks_of tree ++ last_mark ∷ [])

-- with so many open nodes, no more than 65 are open at once
abbrev pub AreShallow : ℕ → List Mark → Type 0
AreShallow count [] = Unit {0}
AreShallow count (begin_mark place name ∷ marks) = (count < most_bodies) × AreShallow (suc count) marks
AreShallow count (end_mark ∷ marks) = AreShallow (count - 1) marks
AreShallow count (prop_mark p ∷ marks) = AreShallow count marks
AreShallow count (nop_mark ∷ marks) = AreShallow count marks
AreShallow count (last_mark ∷ marks) = AreShallow count marks

-- the same of the tokens from which keys come
abbrev pub AreShallowFor : Wanted → ℕ → List Mark → Type 0
AreShallowFor wanted count [] = Unit {0}
AreShallowFor wanted count (begin_mark place name ∷ marks) = ends wanted (begin_mark place name) ≡ false → (count < most_bodies)
    × AreShallowFor wanted (suc count) marks
AreShallowFor wanted count (end_mark ∷ marks) = ends wanted end_mark ≡ false → AreShallowFor wanted (count - 1) marks
AreShallowFor wanted count (prop_mark p ∷ marks) = AreShallowFor wanted count marks
AreShallowFor wanted count (nop_mark ∷ marks) = AreShallowFor wanted count marks
AreShallowFor wanted count (last_mark ∷ marks) = ends wanted last_mark ≡ false → AreShallowFor wanted count marks

-- no token is left, or one at which the keys end
abbrev pub IsAtEnd : Wanted → List Mark → Type 0
IsAtEnd wanted [] = Unit {0}
IsAtEnd wanted (mark ∷ marks) = ends wanted mark ≡ true

-- ---- keys as numbers, so that they can be stored

abbrev pub number_of : Sort → ℕ
number_of Child = 0
number_of Property = 1
number_of Phandle = 2

abbrev pub sort_of : ℕ → Sort
sort_of zero = Child
sort_of (suc zero) = Property
sort_of (suc (suc _)) = Phandle

pub sort_again : (s : Sort) → sort_of (number_of s) ≡ s
sort_again Child = refl
sort_again Property = refl
sort_again Phandle = refl

abbrev pub coded_key : Coded Key
coded_key =
    code_by (ℕ × (ℕ × List ℕ)) (coded× coded_ℕ (coded× coded_ℕ (coded_list coded_ℕ)))
    (λ k. (number_of k.sort, (k.owner, k.bytes)))
    (λ p. record { sort = sort_of p.0; owner = p.1.0; bytes = p.1.1 })
    (λ k. ap (λ (s : Sort). record { sort = s; owner = k.owner; bytes = k.bytes }) (sort_again k.sort))
