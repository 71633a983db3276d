-- A symbol's value is that of one path, or refused for one reason.
use Rattle.std.proofs.Common.{◌≡◌, ◌≤◌, List, ℕ, [], ◌∷◌, length, refl, sym, ap, ◌∙◌, arith}
use Rattle.std.proofs.lemmas.List.{append_cancel_right}
use Rattle.std.specs.List.{AllByRecursion}
use Rattle.dt_model.specs.Limits.{most_names}
use Rattle.dt_model.specs.Names.{IsNodeName}
use Rattle.dt_model.specs.Path.{Path, path_text}
use Rattle.dt_names.specs.Fault.{IsExclusive, IsOneRefusal}
use Rattle.dt_names.specs.declared.fault.FaultKind.TheVariants.{NoMemory, Limit, BadSymbol}
use Rattle.dt_overlay_texts.specs.Texts.{IsPathValue, PathValueIsOne, WhyNoSymbolPath}

module _ (one_path : (p q : List (List ℕ)) → AllByRecursion IsNodeName p → AllByRecursion IsNodeName q → path_text p ≡ path_text q → p ≡ q) where
  pub value_once : PathValueIsOne
  value_once value p q a b = one_path p q a.named b.named (append_cancel_right (path_text p) (path_text q) (0 ∷ []) (sym a.text ∙ b.text))

  pub path_or_refusal : (value : List ℕ) (path : Path) → IsExclusive (IsPathValue value path × (length path ≤ most_names)) (λ kind. WhyNoSymbolPath kind value)
  path_or_refusal value path NoMemory is why = refl
  path_or_refusal value path Limit is why = absurd (omega (arith, is.1, why.2, ap length (value_once value path why.0 is.0 why.1)))
  path_or_refusal value path BadSymbol is why = absurd (why path is.0)
  path_or_refusal value path _ is why = absurd why

  pub refused_once : (value : List ℕ) → IsOneRefusal (λ kind. WhyNoSymbolPath kind value)
  refused_once value NoMemory other ne ne' why why' = absurd (ne refl)
  refused_once value Limit NoMemory ne ne' why why' = absurd (ne' refl)
  refused_once value Limit Limit ne ne' why why' = refl
  refused_once value Limit BadSymbol ne ne' why why' = absurd (why' why.0 why.1)
  refused_once value Limit _ ne ne' why why' = absurd why'
  refused_once value BadSymbol NoMemory ne ne' why why' = absurd (ne' refl)
  refused_once value BadSymbol Limit ne ne' why why' = absurd (why why'.0 why'.1)
  refused_once value BadSymbol BadSymbol ne ne' why why' = refl
  refused_once value BadSymbol _ ne ne' why why' = absurd why'
  refused_once value _ other ne ne' why why' = absurd why
