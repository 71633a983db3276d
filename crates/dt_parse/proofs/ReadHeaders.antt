-- What the first tokens of a source lead to: headers.
use Rattle.std.proofs.Common.{◌≡◌, ◌≢◌, Bool, true, false, length, Option, Some, refl, ap}
use Rattle.dt_names.specs.declared.fault.FaultKind.{FaultKind}
use Rattle.dt_names.specs.declared.fault.FaultKind.TheVariants as fault
use Rattle.dt_lex.specs.declared.token.TokenKind.{TokenKind}
use Rattle.dt_lex.specs.declared.token.TokenKind.TheVariants as kind
use Rattle.dt_lex.specs.declared.token.Mark.TheVariants as mark
use Rattle.dt_lex.specs.declared.token.Keyword.TheVariants as keyword
use Rattle.dt_parse.specs.declared.stop.Stop.{Stop}
use Rattle.dt_grammar.specs.Words.{Words}
use Rattle.dt_grammar.specs.Wanted.{Made, Wanted, Done, Whole, AfterVersion, AfterHeader, PluginEnd, MoreHeaders, NextVersion, NextHeader, Top, refuse, want, kind_at}
use Rattle.dt_grammar.specs.Moves.{at_version, at_semicolon, at_first_plugin, at_next_plugin, at_header, source_with}
use Rattle.dt_grammar.specs.Descent.{found, gives, Descends, first, after}
use Rattle.dt_grammar.specs.Faults.{outside, Breaks, in_part}
use Rattle.dt_parse.specs.Reading.{IsBroken}
use Rattle.dt_parse.specs.Leading.{ReadsOn}
use Rattle.dt_grammar.proofs.Stepping.{part_then}
use Rattle.dt_parse.proofs.Leading.{unexpected, leads_on, leads_then, leads_stop}

-- ---- tokens that can't stand there

no_version : (g : Wanted) (k : Option TokenKind) → k ≢ Some (kind.Keyword keyword.Version) → at_version g k ≡ refuse
no_version g (Some (kind.Keyword keyword.Version)) n = absurd (n refl)
no_version g _ n = refl

no_semicolon : (g : Wanted) (k : Option TokenKind) → k ≢ Some (kind.Mark mark.Semicolon) → at_semicolon g k ≡ refuse
no_semicolon g (Some (kind.Mark mark.Semicolon)) n = absurd (n refl)
no_semicolon g _ n = refl

no_first_plugin : (k : Option TokenKind) → k ≢ Some (kind.Keyword keyword.Plugin) → at_first_plugin k ≡ want false (MoreHeaders false) Done
no_first_plugin (Some (kind.Keyword keyword.Plugin)) n = absurd (n refl)
no_first_plugin _ n = refl

no_next_plugin : (k : Option TokenKind) → k ≢ Some (kind.Keyword keyword.Plugin) → at_next_plugin true k ≡ refuse
no_next_plugin (Some (kind.Keyword keyword.Plugin)) n = absurd (n refl)
no_next_plugin _ n = refl

no_header : (plugin : Bool) (k : Option TokenKind) → k ≢ Some (kind.Keyword keyword.Version) → at_header plugin k ≡ want false Top (λ x. Done (source_with plugin x))
no_header plugin (Some (kind.Keyword keyword.Version)) n = absurd (n refl)
no_header plugin _ n = refl

-- ---- steps

pub whole_stop : (ws : Words) (stop : Stop) → kind_at (first ws) ≢ Some (kind.Keyword keyword.Version) → stop.kind ≡ fault.Syntax → stop.left ≡ length ws → IsBroken outside Whole ws stop
whole_stop ws stop n k l = unexpected outside Whole ws stop (no_version AfterVersion _ n) k l

pub whole_leads : (ws vs : Words) → kind_at (first ws) ≡ Some (kind.Keyword keyword.Version) → vs ≡ after true ws → ReadsOn outside Whole ws outside AfterVersion vs
whole_leads ws vs e v = leads_on outside Whole ws true AfterVersion vs tt (ap (at_version AfterVersion) e) (record { named = tt; placed = tt }) v

pub version_stop : (ws : Words) (stop : Stop) → kind_at (first ws) ≢ Some (kind.Mark mark.Semicolon) → stop.kind ≡ fault.Syntax → stop.left ≡ length ws → IsBroken outside AfterVersion ws stop
version_stop ws stop n k l = unexpected outside AfterVersion ws stop (no_semicolon AfterHeader _ n) k l

pub version_leads : (ws vs : Words) → kind_at (first ws) ≡ Some (kind.Mark mark.Semicolon) → vs ≡ after true ws → ReadsOn outside AfterVersion ws outside AfterHeader vs
version_leads ws vs e v = leads_on outside AfterVersion ws true AfterHeader vs tt (ap (at_semicolon AfterHeader) e) (record { named = tt; placed = tt }) v

pub first_plugin_leads : (ws vs : Words) → kind_at (first ws) ≡ Some (kind.Keyword keyword.Plugin) → vs ≡ after true ws → ReadsOn outside AfterHeader ws outside PluginEnd vs
first_plugin_leads ws vs e v = leads_on outside AfterHeader ws true PluginEnd vs tt (ap at_first_plugin e) (record { named = tt; placed = tt }) v

pub no_plugin_leads : (ws : Words) → kind_at (first ws) ≢ Some (kind.Keyword keyword.Plugin) → ReadsOn outside AfterHeader ws outside (MoreHeaders false) ws
no_plugin_leads ws n = leads_on outside AfterHeader ws false (MoreHeaders false) ws tt (no_first_plugin _ n) (record { named = tt; placed = tt }) refl

pub plugin_stop : (ws : Words) (stop : Stop) → kind_at (first ws) ≢ Some (kind.Mark mark.Semicolon) → stop.kind ≡ fault.Syntax → stop.left ≡ length ws → IsBroken outside PluginEnd ws stop
plugin_stop ws stop n k l = unexpected outside PluginEnd ws stop (no_semicolon (MoreHeaders true) _ n) k l

pub plugin_leads : (ws vs : Words) → kind_at (first ws) ≡ Some (kind.Mark mark.Semicolon) → vs ≡ after true ws → ReadsOn outside PluginEnd ws outside (MoreHeaders true) vs
plugin_leads ws vs e v = leads_on outside PluginEnd ws true (MoreHeaders true) vs tt (ap (at_semicolon (MoreHeaders true)) e) (record { named = tt; placed = tt }) v

pub next_stop : (plugin : Bool) (ws : Words) (stop : Stop) → kind_at (first ws) ≢ Some (kind.Mark mark.Semicolon) → stop.kind ≡ fault.Syntax → stop.left ≡ length ws →
    IsBroken outside (NextVersion plugin) ws stop
next_stop plugin ws stop n k l = unexpected outside (NextVersion plugin) ws stop (no_semicolon (NextHeader plugin) _ n) k l

pub next_leads : (plugin : Bool) (ws vs : Words) → kind_at (first ws) ≡ Some (kind.Mark mark.Semicolon) → vs ≡ after true ws →
    ReadsOn outside (NextVersion plugin) ws outside (NextHeader plugin) vs
next_leads plugin ws vs e v = leads_on outside (NextVersion plugin) ws true (NextHeader plugin) vs tt (ap (at_semicolon (NextHeader plugin)) e) (record { named = tt; placed = tt }) v

pub plain_leads : (ws : Words) → ReadsOn outside (NextHeader false) ws outside (MoreHeaders false) ws
plain_leads ws = leads_on outside (NextHeader false) ws false (MoreHeaders false) ws tt refl (record { named = tt; placed = tt }) refl

pub next_plugin_stop : (ws : Words) (stop : Stop) → kind_at (first ws) ≢ Some (kind.Keyword keyword.Plugin) → stop.kind ≡ fault.Syntax → stop.left ≡ length ws →
    IsBroken outside (NextHeader true) ws stop
next_plugin_stop ws stop n k l = unexpected outside (NextHeader true) ws stop (no_next_plugin _ n) k l

pub next_plugin_leads : (ws vs : Words) → kind_at (first ws) ≡ Some (kind.Keyword keyword.Plugin) → vs ≡ after true ws → ReadsOn outside (NextHeader true) ws outside PluginEnd vs
next_plugin_leads ws vs e v = leads_on outside (NextHeader true) ws true PluginEnd vs tt (ap (at_next_plugin true) e) (record { named = tt; placed = tt }) v

pub header_leads : (plugin : Bool) (ws vs : Words) → kind_at (first ws) ≡ Some (kind.Keyword keyword.Version) → vs ≡ after true ws →
    ReadsOn outside (MoreHeaders plugin) ws outside (NextVersion plugin) vs
header_leads plugin ws vs e v = leads_on outside (MoreHeaders plugin) ws true (NextVersion plugin) vs tt (ap (at_header plugin) e) (record { named = tt; placed = tt }) v

-- ---- a header behind the first

pub next_plain : (plugin : Bool) (ws vs : Words) → plugin ≡ false → kind_at (first ws) ≡ Some (kind.Mark mark.Semicolon) → vs ≡ after true ws →
    ReadsOn outside (NextVersion plugin) ws outside (MoreHeaders plugin) vs
next_plain false ws vs b e v = leads_then outside (NextVersion false) ws outside (NextHeader false) vs outside (MoreHeaders false) vs (next_leads false ws vs e v) (plain_leads vs)
next_plain true ws vs b e v = absurd (cc)

pub next_tagged_stop : (plugin : Bool) (ws vs : Words) (stop : Stop) → plugin ≡ true → kind_at (first ws) ≡ Some (kind.Mark mark.Semicolon) → vs ≡ after true ws →
    kind_at (first vs) ≢ Some (kind.Keyword keyword.Plugin) → stop.kind ≡ fault.Syntax → stop.left ≡ length vs → IsBroken outside (NextVersion plugin) ws stop
next_tagged_stop true ws vs stop b e v n k l =
    leads_stop outside (NextVersion true) ws outside (NextHeader true) vs stop (next_leads true ws vs e v) (next_plugin_stop vs stop n k l)
next_tagged_stop false ws vs stop b e v n k l = absurd (cc)

next_tag : (ws vs us : Words) → kind_at (first ws) ≡ Some (kind.Mark mark.Semicolon) → vs ≡ after true ws →
    kind_at (first vs) ≡ Some (kind.Keyword keyword.Plugin) → us ≡ after true vs → ReadsOn outside (NextVersion true) ws outside PluginEnd us
next_tag ws vs us e v f u =
    leads_then outside (NextVersion true) ws outside (NextHeader true) vs outside PluginEnd us (next_leads true ws vs e v) (next_plugin_leads vs us f u)

pub next_tagged_end_stop : (plugin : Bool) (ws vs us : Words) (stop : Stop) → plugin ≡ true → kind_at (first ws) ≡ Some (kind.Mark mark.Semicolon) → vs ≡ after true ws →
    kind_at (first vs) ≡ Some (kind.Keyword keyword.Plugin) → us ≡ after true vs →
    kind_at (first us) ≢ Some (kind.Mark mark.Semicolon) → stop.kind ≡ fault.Syntax → stop.left ≡ length us → IsBroken outside (NextVersion plugin) ws stop
next_tagged_end_stop true ws vs us stop b e v f u n k l = leads_stop outside (NextVersion true) ws outside PluginEnd us stop (next_tag ws vs us e v f u) (plugin_stop us stop n k l)
next_tagged_end_stop false ws vs us stop b e v f u n k l = absurd (cc)

pub next_tagged : (plugin : Bool) (ws vs us left : Words) → plugin ≡ true → kind_at (first ws) ≡ Some (kind.Mark mark.Semicolon) → vs ≡ after true ws →
    kind_at (first vs) ≡ Some (kind.Keyword keyword.Plugin) → us ≡ after true vs → kind_at (first us) ≡ Some (kind.Mark mark.Semicolon) → left ≡ after true us →
    ReadsOn outside (NextVersion plugin) ws outside (MoreHeaders plugin) left
next_tagged true ws vs us left b e v f u g l =
    leads_then outside (NextVersion true) ws outside PluginEnd us outside (MoreHeaders true) left (next_tag ws vs us e v f u) (plugin_leads us left g l)
next_tagged false ws vs us left b e v f u g l = absurd (cc)

-- ---- behind the headers

pub behind_headers : (plugin : Bool) (ws : Words) → kind_at (first ws) ≢ Some (kind.Keyword keyword.Version) → (m : Made) (left : Words) →
    Descends Top ws (found m left) → Descends (MoreHeaders plugin) ws (found (source_with plugin m) left)
behind_headers plugin ws n m left d =
    part_then (MoreHeaders plugin) ws false Top (λ x. Done (source_with plugin x)) m left (found (source_with plugin m) left) (no_header plugin _ n) d gives

pub behind_headers_breaks : (plugin : Bool) (ws : Words) → kind_at (first ws) ≢ Some (kind.Keyword keyword.Version) → (k : FaultKind) (left : Words) →
    Breaks outside Top ws k left → Breaks outside (MoreHeaders plugin) ws k left
behind_headers_breaks plugin ws n k left h =
    in_part outside (MoreHeaders plugin) ws left k false Top (λ x. Done (source_with plugin x)) tt (no_header plugin _ n) (record { named = tt; placed = tt }) h
