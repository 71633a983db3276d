-- The limits of this project, which the source language and the blob format themselves haven't.
use Rattle.std.specs.Prelude.{ℕ}

-- how many bytes a text or a blob may have: 16 MiB
abbrev pub most_bytes : ℕ
most_bytes = 16777216

-- how many nodes a tree may have, the root among them
abbrev pub most_nodes : ℕ
most_nodes = 65536

-- how many names the path of a node may have; the root's has none
abbrev pub most_names : ℕ
most_names = 64

-- how many bodies of a source may be open at once: the root's, and one for each name of a path
abbrev pub most_bodies : ℕ
most_bodies = 65

-- how many bytes the name of a node, a property or a label may have
abbrev pub most_name_bytes : ℕ
most_name_bytes = 255

-- how many tokens an expression may have
abbrev pub most_tokens : ℕ
most_tokens = 1024
