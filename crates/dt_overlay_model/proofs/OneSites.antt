-- An overlay that can be merged into a meaning has one list of sites there.
use Rattle.std.proofs.Common.{◌≡◌, List, [], ◌∷◌, ◌++◌, sym, ap, ◌∙◌, subst, Some, refl}
use Rattle.dt_model.specs.Path.{Path}
use Rattle.dt_model.specs.Meaning.{Meaning}
use Rattle.dt_model.specs.Overlay.{inside, outside, Target, at_reference, at_path, Fragment, Overlay}
use Rattle.dt_model.specs.Merged.{Site, AreSites, IsSite, Names}
use Rattle.dt_overlay_model.specs.Joining.{SitesAreOne}

one_path : (m : Meaning) (earlier : List Site) (t : Target) (q r : Path) → Names m earlier t q → Names m earlier t r → q ≡ r
one_path m earlier (at_reference (inside p)) q r h k = let z : Some q ≡ Some r = sym h ∙ k in cc
one_path m earlier (at_reference (outside l)) q r h k = let z : Some q ≡ Some r = sym h ∙ k in cc
one_path m earlier (at_path p) q r h k = sym h ∙ k

one_site : (m : Meaning) (o : Overlay) (earlier : List Site) (f : Fragment) (x y : Site) → IsSite m o earlier f x → IsSite m o earlier f y → x ≡ y
one_site m o earlier f x y h k =
    ap (λ z. record { fragment = z; at = x.at }) (h.of ∙ sym k.of)
    ∙ ap (λ z. record { fragment = y.fragment; at = z }) (one_path m earlier f.target x.at y.at h.named k.named)

one_list : (m : Meaning) (o : Overlay) (fs : List Fragment) (earlier sites others : List Site) → AreSites m o earlier fs sites → AreSites m o earlier fs others → sites ≡ others
one_list m o [] earlier [] [] h k = refl
one_list m o [] earlier [] (y ∷ others) h k = absurd k
one_list m o [] earlier (x ∷ sites) others h k = absurd h
one_list m o (f ∷ fs) earlier [] others h k = absurd h
one_list m o (f ∷ fs) earlier (x ∷ sites) [] h k = absurd k
one_list m o (f ∷ fs) earlier (x ∷ sites) (y ∷ others) h k =
    let same = one_site m o earlier f x y h.0 k.0 in
    let rest = one_list m o fs (earlier ++ y ∷ []) sites others (subst (λ z. AreSites m o (earlier ++ z ∷ []) fs sites) same h.1) k.1 in
    ap (λ z. z ∷ sites) same ∙ ap (λ z. y ∷ z) rest

pub sites_are_one : SitesAreOne
sites_are_one m o sites others h k = one_list m o o.fragments [] sites others h.placed k.placed
