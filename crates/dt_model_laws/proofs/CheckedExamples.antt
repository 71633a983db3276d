-- The objects of the worked cases, which meet what is asked of them, and why one of them can't be merged into a base.
use Rattle.std.proofs.Common.{◌≡◌, true, false, List, [], ◌∷◌, ◌++◌, codes, refl, rules}
use Rattle.std.specs.Fmt.{digits}
use Rattle.dt_model.specs.Names.{Name}
use Rattle.dt_model.specs.Event.{age_by}
use Rattle.dt_model.specs.Meaning.{byte, reference}
use Rattle.dt_model.specs.Overlay.{outside}
use Rattle.dt_model.specs.Merged.{Site, IsDefined}
use Rattle.dt_model.specs.Numbers.{paths_of}
use Rattle.dt_model.specs.Rows.{content_of, fragment, two_cells_sites, three_values_sites, inner_sites}
use Rattle.dt_model_laws.specs.Premises.{Base, Object, base_meaning, object_overlay, controller_base, one_node_base, referring_base, two_cells_object, three_values_object, inner_target_object, label_taken_object, joined_node_object}
use Rattle.dt_model_laws.proofs.CheckedFixups.{Groups}
use Rattle.dt_model_laws.proofs.CheckedApplications.{IsApplicable}
use Rattle.dt_model_laws.proofs.CheckedCases.{IsCheckedObject}

abbrev pub IsApplicableTo : Base → Object → List Name → List Site → Type 0
IsApplicableTo b x ns sites = IsApplicable (paths_of x.tree) ns (base_meaning b) (object_overlay x) sites

abbrev pub two_cells_names : List Name
two_cells_names = codes "p" ∷ codes "q" ∷ codes "e" ∷ codes "gic" ∷ codes "target-path" ∷ codes "phandle" ∷ []

abbrev pub two_cells_groups : Groups
two_cells_groups = (codes "gic", record { path = content_of 0 ++ codes "d" ∷ []; property = codes "p"; offset = 1 } ∷ []) ∷ []

pub two_cells_checked : IsCheckedObject two_cells_object two_cells_names two_cells_groups
unfolding digits age_by
two_cells_checked = search rules

pub two_cells_applicable : IsApplicableTo controller_base two_cells_object two_cells_names two_cells_sites
unfolding digits
two_cells_applicable = search rules

abbrev pub three_values_names : List Name
three_values_names = codes "p" ∷ codes "n" ∷ codes "a" ∷ codes "target" ∷ codes "phandle" ∷ []

abbrev pub three_values_groups : Groups
three_values_groups = (codes "a", record { path = fragment 0 ∷ []; property = codes "target"; offset = 0 } ∷ record { path = fragment 1 ∷ []; property = codes "target"; offset = 0 } ∷ []) ∷ []

pub three_values_checked : IsCheckedObject three_values_object three_values_names three_values_groups
unfolding digits age_by
three_values_checked = search rules

pub three_values_applicable : IsApplicableTo one_node_base three_values_object three_values_names three_values_sites
unfolding digits
three_values_applicable = search rules

abbrev pub inner_target_names : List Name
inner_target_names = codes "n" ∷ codes "q" ∷ codes "target" ∷ codes "target-path" ∷ codes "phandle" ∷ []

pub inner_target_checked : IsCheckedObject inner_target_object inner_target_names []
unfolding digits age_by
inner_target_checked = search rules

pub inner_target_applicable : IsApplicableTo controller_base inner_target_object inner_target_names inner_sites
unfolding digits
inner_target_applicable = search rules

abbrev pub label_taken_names : List Name
label_taken_names = codes "l" ∷ codes "target-path" ∷ codes "phandle" ∷ []

pub label_taken_checked : IsCheckedObject label_taken_object label_taken_names []
unfolding digits age_by
label_taken_checked = search rules

pub label_taken_applicable : IsApplicableTo referring_base label_taken_object label_taken_names two_cells_sites
unfolding digits
label_taken_applicable = search rules

abbrev pub joined_node_names : List Name
joined_node_names = codes "m" ∷ codes "r" ∷ codes "target-path" ∷ codes "phandle" ∷ []

pub joined_node_checked : IsCheckedObject joined_node_object joined_node_names []
unfolding digits age_by
joined_node_checked = search rules

pub joined_node_applicable : IsApplicableTo controller_base joined_node_object joined_node_names two_cells_sites
unfolding digits
joined_node_applicable = search rules

-- a reference by a label that the base hasn't
pub missing_label_refused : (sites : List Site) → IsDefined (base_meaning one_node_base) (object_overlay two_cells_object) sites → ⊥
unfolding digits
missing_label_refused sites a =
    let z : false ≡ true = (a.given (content_of 0 ++ codes "d" ∷ []) (codes "p") (byte 1 ∷ reference (outside (codes "gic")) ∷ []) refl).0 in
    cc
