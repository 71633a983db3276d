-- What the items of a source say.
use Rattle.std.specs.Prelude.{ℕ, Bool, List, [], ◌∷◌, ◌++◌, drop, map, take}
use Rattle.dt_model.specs.Source.{Part, one, number_of, text_of, Place, root, block, delete_node, child, label, property, delete_property, delete_child, close}
use Rattle.dt_model.specs.Source as model
use Rattle.dt_source_items.specs.declared.source.Reference.{Reference}
use Rattle.dt_source_items.specs.declared.source.Reference.TheVariants as reference
use Rattle.dt_source_items.specs.declared.source.Form.{Form}
use Rattle.dt_source_items.specs.declared.source.Form.TheVariants as form
use Rattle.dt_source_items.specs.declared.source.Piece.{Piece}
use Rattle.dt_source_items.specs.declared.source.Value.{Value}
use Rattle.dt_source_items.specs.declared.source.Item.{Item}
use Rattle.dt_source_items.specs.declared.source.Item.TheVariants as item
use Rattle.dt_source_items.specs.declared.source.Reservation.{Reservation}
use Rattle.dt_grammar.specs.Grammar.{Says}

abbrev pub reference_of : Reference → model.Reference
reference_of (reference.Label l) = model.by_label l
reference_of (reference.Path p) = model.by_path p

abbrev pub referring : Form → model.Reference → Part
referring form.Cell r = number_of r
referring form.Text r = text_of r

-- the parts of a value of these bytes: each piece is its bytes and the reference behind them, and what is left comes last
abbrev pub parts_said : List Piece → List ℕ → List Part
parts_said [] bytes = map one bytes
parts_said (p ∷ ps) bytes = map one (take p.before bytes) ++ referring p.form (reference_of p.reference) ∷ parts_said ps (drop p.before bytes)

abbrev pub value_said : Value → List Part
value_said v = parts_said v.pieces.now v.bytes.now

abbrev pub place_said : Item → Place
place_said item.Root = root
place_said (item.Block r) = block (reference_of r.now)
place_said (item.DeleteNode r) = delete_node (reference_of r.now)
place_said (item.Child n) = child n.now
place_said (item.Label l) = label l.now
place_said (item.Property n v) = property n.now (value_said v)
place_said (item.DeleteProperty n) = delete_property n.now
place_said (item.DeleteChild n) = delete_child n.now
place_said item.Close = close

abbrev pub reservation_said : Reservation → ℕ × ℕ
reservation_said r = (r.address, r.size)

abbrev pub said : Bool → List Reservation → List Place → Says
said plugin reservations places = record { plugin = plugin; reservations = map reservation_said reservations; places = places }
