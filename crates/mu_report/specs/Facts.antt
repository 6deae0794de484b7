-- moment lines, noted lines: what holds after the first events of a list, and a legal list whose
-- replicas don't all obey their script, as lines without their ends.
use Rattle.std.specs.Prelude.{ℕ, List, [], ◌∷◌, ◌++◌, codes, map}
use Rattle.std.specs.Fmt.{decimal}
use Rattle.mu_events.specs.Lines.{answer_words}
use Rattle.mu_model.specs.declared.event.Answer.{Answer}
use Rattle.mu_model.specs.declared.script.Stop.{Stop}
use Rattle.mu_report.specs.Sentences.{sentence}
use Rattle.mu_outcome.specs.declared.moment.Fact.{Fact}
use Rattle.mu_outcome.specs.declared.moment.Leads.{Leads}
use Rattle.mu_outcome.specs.declared.moment.Moment.{Moment}

-- what the last leadership of r has come to
abbrev pub leadership_words : ℕ → Leads → List ℕ
leadership_words r Leads.None = sentence (codes "replica # leadership none") (decimal r ∷ [])
leadership_words r Leads.Begun = sentence (codes "replica # leadership begun") (decimal r ∷ [])
leadership_words r (Leads.Number b) =
    sentence (codes "replica # leadership number #") (decimal r ∷ decimal b ∷ [])
leadership_words r Leads.Over = sentence (codes "replica # leadership over") (decimal r ∷ [])

-- a fact
abbrev pub fact_words : Fact → List ℕ
fact_words (Fact.Fence p fence) =
    sentence (codes "region # #") (decimal p ∷ answer_words (Answer.Seen fence) ∷ [])
fact_words (Fact.Numbers p minimum fuo head beats) =
    sentence (codes "region # min # fuo # head # beats #")
    (decimal p ∷ decimal minimum ∷ decimal fuo ∷ decimal head ∷ decimal beats ∷ [])
fact_words (Fact.Asks p w count) =
    sentence (codes "region # asks of #: #") (decimal p ∷ decimal w ∷ decimal count ∷ [])
fact_words (Fact.Entry p i b v) =
    sentence (codes "region # log # entry # #") (decimal p ∷ decimal i ∷ decimal b ∷ decimal v ∷ [])
fact_words (Fact.Reached r steps known applied named) =
    sentence (codes "replica # steps # known # applied # names #")
    (decimal r ∷ decimal steps ∷ decimal known ∷ decimal applied ∷ decimal named ∷ [])
fact_words (Fact.Leadership r leads) = leadership_words r leads
fact_words (Fact.Member r p) = sentence (codes "replica # member #") (decimal r ∷ decimal p ∷ [])
fact_words (Fact.Failed r q) = sentence (codes "replica # failed #") (decimal r ∷ decimal q ∷ [])
fact_words (Fact.Known r i v) =
    sentence (codes "replica # knows # value #") (decimal r ∷ decimal i ∷ decimal v ∷ [])

-- after how many of how many events
abbrev pub moment_words : Moment → List ℕ
moment_words moment =
    codes "after " ++ decimal moment.taken ++ codes " of " ++ decimal moment.events

-- what holds then
abbrev pub moment_lines : Moment → List (List ℕ)
moment_lines moment = moment_words moment ∷ map fact_words moment.facts

-- a stop after which its replica goes on
abbrev pub stray_words : Stop → List ℕ
stray_words stop =
    sentence (codes "replica # goes on after its stop at #")
    (decimal stop.replica ∷ decimal stop.steps ∷ [])

-- a legal list of this many events
abbrev pub legal_words : ℕ → List ℕ
legal_words events = codes "legal " ++ decimal events

-- such a list, and after which stops replicas go on
abbrev pub noted_lines : ℕ → List Stop → List (List ℕ)
noted_lines events strays = legal_words events ∷ map stray_words strays
