-- The lines of a walk through a tree.
use Rattle.std.specs.Prelude.{ℕ, zero, suc, pred, List, [], ◌∷◌, ◌++◌, codes}
use Rattle.dt_model.specs.Names.{Name}
use Rattle.dt_model.specs.Printed.{tabs, property_line}
use Rattle.dt_read.specs.Walked.{Step, opens, holds, closes}

-- the name of a node inside so many others; the root's is a slash
abbrev pub shown_name : ℕ → Name → Name
shown_name zero name = codes "/"
shown_name (suc depth) name = name

-- the line at which a node begins, inside so many others
abbrev pub open_line : ℕ → Name → List ℕ
open_line depth name = tabs depth ++ (shown_name depth name ++ codes " {\n")

-- the line at which it ends
abbrev pub close_line : ℕ → List ℕ
close_line depth = tabs depth ++ codes "};\n"

-- the line of a step inside so many nodes
abbrev pub line_of : ℕ → Step → List ℕ
line_of depth (opens place name) = open_line depth name
line_of depth (holds p) = property_line depth p
line_of depth closes = close_line (pred depth)

-- how many nodes are open at the next step
abbrev pub depth_after : ℕ → Step → ℕ
depth_after depth (opens place name) = suc depth
depth_after depth (holds p) = depth
depth_after depth closes = pred depth

-- the lines of steps, the first of them inside so many nodes
abbrev pub lines_of : ℕ → List Step → List ℕ
lines_of depth [] = []
lines_of depth (step ∷ steps) = line_of depth step ++ lines_of (depth_after depth step) steps

-- how many nodes begin
abbrev pub opened : List Step → ℕ
opened [] = 0
opened (opens place name ∷ steps) = suc (opened steps)
opened (holds p ∷ steps) = opened steps
opened (closes ∷ steps) = opened steps
