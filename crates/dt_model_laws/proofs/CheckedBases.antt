-- The bases of the worked cases, which meet what is asked of them.
use Rattle.std.proofs.Common.{List, [], ◌∷◌, codes, rules}
use Rattle.dt_model.specs.Names.{Name}
use Rattle.dt_model_laws.specs.Premises.{controller_base, one_node_base, referring_base, written_phandle_base, gap_of_numbers_base}
use Rattle.dt_model_laws.proofs.CheckedCases.{IsCheckedBase}

abbrev pub controller_names : List Name
controller_names = codes "gic" ∷ codes "phandle" ∷ []

pub controller_checked : IsCheckedBase controller_base controller_names
controller_checked = search rules

abbrev pub one_node_names : List Name
one_node_names = codes "a" ∷ codes "phandle" ∷ []

pub one_node_checked : IsCheckedBase one_node_base one_node_names
one_node_checked = search rules

abbrev pub referring_names : List Name
referring_names = codes "r" ∷ codes "l" ∷ codes "phandle" ∷ []

pub referring_checked : IsCheckedBase referring_base referring_names
referring_checked = search rules

abbrev pub written_phandle_names : List Name
written_phandle_names = codes "l" ∷ codes "p" ∷ codes "phandle" ∷ []

pub written_phandle_checked : IsCheckedBase written_phandle_base written_phandle_names
written_phandle_checked = search rules

abbrev pub gap_of_numbers_names : List Name
gap_of_numbers_names = codes "p" ∷ codes "l" ∷ codes "b" ∷ codes "x" ∷ codes "phandle" ∷ []

pub gap_of_numbers_checked : IsCheckedBase gap_of_numbers_base gap_of_numbers_names
gap_of_numbers_checked = search rules
