-- What was judged trace by trace was judged as one.
use Rattle.std.proofs.Common.{◌≡◌, ℕ, Bool, true, false, ◌&&◌, List, [], ◌∷◌, ◌++◌, ◌<◌, length, take, Option, None, Some, MatchOption, Result, Ok, Err, IfErr, IfOk, OnOk, refl, sym, ap, subst, ◌∙◌, append_assoc, append-nil}
use Rattle.std.specs.Io.KnownBytes.{Appends}
use Rattle.std.specs.Option.{option_map_or}
use Rattle.std.proofs.KnownBytes.{Appends-trans}
use Rattle.mu_io.specs.declared.whole.WriteFault.{WriteFault}
use Rattle.mu_report.specs.declared.said.Said.{Said}
use Rattle.mu_verdict.specs.Judged.{SaysOf}
use Rattle.mu_report.specs.Said.{text}
use Rattle.judge_traces.specs.Traces.{JudgesAll, JudgesOne, JudgesPart, JudgesSome, SaysOfAll, SaysOfFirst, are_legal, cut, first_trace, is_legal, texts}

-- the traces before the rest were judged, and whether all of them are legal
pub record JudgedUpTo (bytes rest : List ℕ) (before after : Option (List ℕ)) (legal : Bool) : Type 0 where
  pub saids : List Said
  pub says : (more : List Said) → SaysOfAll rest more → SaysOfAll bytes (saids ++ more)
  pub first : (more : List Said) (last : Said) → SaysOfFirst rest more last → SaysOfFirst bytes (saids ++ more) last
  pub printed : Appends before after (texts saids)
  pub legal_is : are_legal saids ≡ legal

texts-append : (saids more : List Said) → texts (saids ++ more) ≡ texts saids ++ texts more
texts-append [] more = refl
texts-append (said ∷ saids) more = ap (λ l. text said ++ l) (texts-append saids more) ∙ sym (append_assoc (text said) (texts saids) (texts more))

texts-next : (saids : List Said) (said : Said) → texts (saids ++ said ∷ []) ≡ texts saids ++ text said
texts-next saids said = texts-append saids (said ∷ []) ∙ ap (λ l. texts saids ++ l) (append-nil (text said))

and_grouped : (x y z : Bool) → (x && (y && z)) ≡ ((x && y) && z)
and_grouped true y z = refl
and_grouped false y z = refl

and_true : (x : Bool) → (x && true) ≡ x
and_true true = refl
and_true false = refl

legal-next : (saids : List Said) (said : Said) → are_legal (saids ++ said ∷ []) ≡ (are_legal saids && is_legal said)
legal-next [] said = and_true (is_legal said)
legal-next (first ∷ saids) said = ap (λ x. is_legal first && x) (legal-next saids said) ∙ and_grouped (is_legal first) (are_legal saids) (is_legal said)

legal-both : (saids : List Said) (said : Said) (legal one : Bool) → are_legal saids ≡ legal → is_legal said ≡ one → are_legal (saids ++ said ∷ []) ≡ (legal && one)
legal-both saids said legal one all is = legal-next saids said ∙ (ap (λ x. x && is_legal said) all ∙ ap (λ y. legal && y) is)

-- what is said of a trace was written, or a first part of it
pub judged_one : (bytes : List ℕ) (said : Said) (a b : Option (List ℕ)) (r : Result Bool WriteFault) → SaysOf bytes said → OnOk r (Appends a b (text said))
    → IfOk r (λ legal. legal ≡ is_legal said) → IfOk r (λ legal. JudgesOne bytes a b legal)
judged_one bytes said a b (Ok legal) says printed is = record { said = said; says = says; printed = printed; legal_is = sym is }
judged_one bytes said a b (Err fault) says printed is = tt

pub judged_part : (bytes : List ℕ) (said : Said) (a b : Option (List ℕ)) (r : Result Bool WriteFault) → SaysOf bytes said
    → IfErr r (λ fault. Appends a b (take fault.taken (text said))) → IfErr r (λ fault. fault.taken < length (text said)) → IfErr r (λ fault. JudgesPart bytes a b fault.taken)
judged_part bytes said a b (Ok legal) says printed short = tt
judged_part bytes said a b (Err fault) says printed short = record { said = said; says = says; printed = printed; short = short }

-- one more trace was judged
pub judged_step : (bytes rest trace more : List ℕ) (a b c : Option (List ℕ)) (legal one : Bool) → JudgedUpTo bytes rest a b legal → cut rest ≡ Some (trace, more)
    → JudgesOne trace b c one → JudgedUpTo bytes more a c (legal && one)
judged_step bytes rest trace more a b c legal one p is q = record {
  saids = p.saids ++ q.said ∷ [];
  says = λ others all.
      let next : SaysOfAll rest (q.said ∷ others) =
      subst (λ parts. MatchOption parts (SaysOf rest q.said × (others ≡ [])) (λ parts. SaysOf parts.0 q.said × SaysOfAll parts.1 others)) (sym is) (q.says, all) in
      subst (SaysOfAll bytes) (sym (append_assoc p.saids (q.said ∷ []) others)) (p.says (q.said ∷ others) next);
  first = λ others last some.
      let next : SaysOfFirst rest (q.said ∷ others) last =
      subst (λ parts. MatchOption parts ⊥ (λ parts. SaysOf parts.0 q.said × SaysOfFirst parts.1 others last)) (sym is) (q.says, some) in
      subst (λ saids. SaysOfFirst bytes saids last) (sym (append_assoc p.saids (q.said ∷ []) others)) (p.first (q.said ∷ others) last next);
  printed = subst (Appends a c) (sym (texts-next p.saids q.said)) (Appends-trans a b c _ _ p.printed q.printed);
  legal_is = legal-both p.saids q.said legal one p.legal_is q.legal_is;
}

last_says : (rest : List ℕ) (said : Said) → cut rest ≡ None → SaysOf rest said → SaysOfAll rest (said ∷ [])
last_says rest said is says =
    let none : List Said = [] in
    subst (λ parts. MatchOption parts (SaysOf rest said × (none ≡ none)) (λ parts. SaysOf parts.0 said × SaysOfAll parts.1 none)) (sym is) (says, refl)

-- the last trace was judged
pub judged_end : (bytes rest : List ℕ) (a b c : Option (List ℕ)) (legal one : Bool) → JudgedUpTo bytes rest a b legal → cut rest ≡ None → JudgesOne rest b c one
    → JudgesAll bytes a c (legal && one)
judged_end bytes rest a b c legal one p is q = record {
  saids = p.saids ++ q.said ∷ [];
  says = p.says (q.said ∷ []) (last_says rest q.said is q.says);
  printed = subst (Appends a c) (sym (texts-next p.saids q.said)) (Appends-trans a b c _ _ p.printed q.printed);
  legal_is = legal-both p.saids q.said legal one p.legal_is q.legal_is;
}

-- the sink failed at the line of the first trace of the rest
pub judged_some : (bytes rest trace : List ℕ) (a b c : Option (List ℕ)) (legal : Bool) (taken : ℕ) → JudgedUpTo bytes rest a b legal → first_trace rest ≡ trace → JudgesPart trace b c taken
    → JudgesSome bytes a c taken
judged_some bytes rest trace a b c legal taken p is q = record {
  saids = p.saids;
  last = q.said;
  says = subst (λ saids. SaysOfFirst bytes saids q.said) (append-nil p.saids) (p.first [] q.said (subst (λ front. SaysOf front q.said) (sym is) q.says));
  printed = Appends-trans a b c _ _ p.printed q.printed;
  short = q.short;
}

-- the first trace ends at the first separator, and is the whole if there is none
pub first_cut : (rest trace more : List ℕ) → cut rest ≡ Some (trace, more) → first_trace rest ≡ trace
first_cut rest trace more is = ap (λ parts. option_map_or (λ (p : List ℕ × List ℕ). p.0) parts rest) is

pub first_whole : (rest : List ℕ) → cut rest ≡ None → first_trace rest ≡ rest
first_whole rest is = ap (λ parts. option_map_or (λ (p : List ℕ × List ℕ). p.0) parts rest) is

-- if its line was not written whole
pub judged_some_of : {T : Type 0} (bytes rest trace : List ℕ) (a b c : Option (List ℕ)) (legal : Bool) (r : Result T WriteFault) → JudgedUpTo bytes rest a b legal
    → first_trace rest ≡ trace → IfErr r (λ fault. JudgesPart trace b c fault.taken) → IfErr r (λ fault. JudgesSome bytes a c fault.taken)
judged_some_of bytes rest trace a b c legal (Ok x) p is q = tt
judged_some_of bytes rest trace a b c legal (Err fault) p is q = judged_some bytes rest trace a b c legal fault.taken p is q
