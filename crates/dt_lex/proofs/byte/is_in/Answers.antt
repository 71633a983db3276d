use Rattle.std.proofs.Common.{refl, sym, ap, ◌∙◌, arith}
use Rattle.dt_lex.specs.Bytes.{is_in}
use Rattle.dt_lex.specs.declared.byte.TheConstants.{CLASSES}
use Rattle.dt_lex.specs.declared.byte.Class.{Class}
use Rattle.dt_lex.specs.declared.byte.Class.TheVariants as class
use Rattle.dt_names.proofs.Tables.{agree_below, from_table}
use Rattle.dt_lex.proofs.byte.is_in.Goals as goal

pub returns-in-Blank : goal.returns-in-Blank
unfolding agree_below
returns-in-Blank c = from_table CLASSES 32 (is_in class.Blank) c.args.b (omega arith) refl ∙ ap (λ (k : Class). is_in k c.args.b) (sym c.in-Blank.is)

pub returns-in-Name : goal.returns-in-Name
unfolding agree_below
returns-in-Name c = from_table CLASSES 1 (is_in class.Name) c.args.b (omega arith) refl ∙ ap (λ (k : Class). is_in k c.args.b) (sym c.in-Name.is)

pub returns-in-Path : goal.returns-in-Path
unfolding agree_below
returns-in-Path c = from_table CLASSES 2 (is_in class.Path) c.args.b (omega arith) refl ∙ ap (λ (k : Class). is_in k c.args.b) (sym c.in-Path.is)

pub returns-in-Label : goal.returns-in-Label
unfolding agree_below
returns-in-Label c = from_table CLASSES 4 (is_in class.Label) c.args.b (omega arith) refl ∙ ap (λ (k : Class). is_in k c.args.b) (sym c.in-Label.is)

pub returns-in-LabelStart : goal.returns-in-LabelStart
unfolding agree_below
returns-in-LabelStart c = from_table CLASSES 8 (is_in class.LabelStart) c.args.b (omega arith) refl ∙ ap (λ (k : Class). is_in k c.args.b) (sym c.in-LabelStart.is)

pub returns-in-Hex : goal.returns-in-Hex
unfolding agree_below
returns-in-Hex c = from_table CLASSES 16 (is_in class.Hex) c.args.b (omega arith) refl ∙ ap (λ (k : Class). is_in k c.args.b) (sym c.in-Hex.is)
