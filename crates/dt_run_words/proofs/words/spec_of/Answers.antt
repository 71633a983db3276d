use Rattle.std.proofs.Common.{refl, codes}
use Rattle.clap.specs.Words.{found_of}
use Rattle.dt_run_words.proofs.WordLemmas.{is_text, no_text}
use Rattle.dt_run_words.proofs.words.spec_of.Goals as goal

pub returns-in_default : goal.returns-in_default
returns-in_default c = λ path property kind index words. no_text (found_of c.args.found.now) (codes "PATH") path.now c.in_default.ensures words.0

pub returns-in_default-get_str : goal.returns-in_default-get_str
returns-in_default-get_str c = λ path property kind index words. no_text (found_of c.args.found.now) (codes "PROP") property.now c.in_default-get_str.ensures words.1

pub returns-in_default-get_str-2 : goal.returns-in_default-get_str-2
returns-in_default-get_str-2 c = λ path property kind index words. no_text (found_of c.args.found.now) (codes "KIND") kind.now c.in_default-get_str-2.ensures words.2

pub returns-in_default-number_of : goal.returns-in_default-number_of
returns-in_default-number_of c = λ path property kind index words. c.in_default-number_of.ensures index words.3

pub returns : goal.returns
returns c =
    let f = found_of c.args.found.now in (
      refl,
      refl,
      (is_text f (codes "PATH") c.in-Some.path.now c.in-Some.ensures, is_text f (codes "PROP") c.in-Some-get_str.property.now c.in-Some-get_str.ensures, is_text f (codes "KIND") c.in-Some-get_str-2.kind.now c.in-Some-get_str-2.ensures, c.in-Some-number_of.ensures),
    )
