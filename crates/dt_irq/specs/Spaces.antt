-- The cells that specifiers have in a space.
use Rattle.std.specs.Prelude.{ℕ}
use Rattle.dt_model.specs.Path.{Path}
use Rattle.dt_resolve_model.specs.Answers.{Answer}
use Rattle.dt_resolve_model.specs.World.{World}
use Rattle.dt_resolve_model.specs.Interrupts.{RowCells, specifier_count, interrupt_row_cells}
use Rattle.dt_resolve_model.specs.Specifiers.{provider_count, provider_row_cells}
use Rattle.dt_irq.specs.declared.spaces.Space.{Space}
use Rattle.dt_irq.specs.declared.spaces.Space.TheVariants.{Interrupts, Kind}

-- those of a specifier at a node
abbrev pub count_in : Space → World → Path → Answer ℕ
count_in Interrupts w = specifier_count w
count_in (Kind kind) w = provider_count w kind.now

-- those of a map's row, by its parent
abbrev pub widths_in : Space → World → Path → Answer RowCells
widths_in Interrupts w = interrupt_row_cells w
widths_in (Kind kind) w = provider_row_cells w kind.now
