-- The words stand for a list with more rows at the end too.
use Rattle.std.proofs.Common.{◌≡◌, ℕ, ◌==◌, List, [], ◌∷◌, ap, refl, subst, sym, ◌∙◌, None, Some}
use Rattle.std.specs.Prelude.{if◌then◌else◌}
use Rattle.std.specs.declared.option.Option.{Option}
use Rattle.mu_model.specs.declared.config.Config.{Config}
use Rattle.mu_model.specs.declared.config.Row.{Row}
use Rattle.mu_model.specs.declared.event.Answer.{Answer}
use Rattle.mu_model.specs.declared.event.Event.{Event}
use Rattle.mu_model.specs.declared.event.Target.{Target}
use Rattle.mu_model.specs.declared.event.Verb.{Verb}
use Rattle.mu_model.specs.Histories.{history, part}
use Rattle.mu_model.specs.Growing.{with_more}
use Rattle.mu_words.specs.Finding.{found_word, kept, kept_after, loaded_by, name_of, sights}
use Rattle.mu_words.specs.Founds.{FoundIs, fixed_word, last_entered}
use Rattle.mu_words.specs.Growing.{FoundsStay, WordsStay}
use Rattle.mu_words.specs.Standing.{changed_since_look, close_target, content, drain_took, leaves, standing_word, stamp, target_word}
use Rattle.mu_words.specs.declared.found.Found.{Found}
use Rattle.mu_words.specs.declared.layout.Name.{Name}

content_kept : (c : Config) (more : List Row) (p : ℕ) (t : Target) (past : List Event) → content (with_more c more) p t past ≡ content c p t past
content_kept c more p Target.None past = refl
content_kept c more p Target.Min past = refl
content_kept c more p (Target.Place s) past = refl

leaves_kept : (c : Config) (more : List Row) (p : ℕ) (t : Target) (v : Verb) (a : Answer) → leaves (with_more c more) p t v a ≡ leaves c p t v a
leaves_kept c more p t (Verb.PutSlot q i b v) Answer.Done = refl
leaves_kept c more p t v a = refl

changed_kept : (c : Config) (more : List Row) (p : ℕ) (past : List Event) → changed_since_look (with_more c more) p past ≡ changed_since_look c p past
changed_kept c more p [] = refl
changed_kept c more p (e ∷ past) = rw (leaves_kept c more p (close_target p past) e.verb e.answer, content_kept c more p (close_target p past) past, changed_kept c more p past) refl

drain_kept : (c : Config) (more : List Row) (p : ℕ) (t : Target) (past : List Event) (by : ℕ) (v : Verb) → drain_took (with_more c more) p t past by v ≡ drain_took c p t past by v
drain_kept c more p t past by Verb.Drain = rw (changed_kept c more p past) refl
drain_kept c more p t past by v = refl

stamp_kept : (c : Config) (more : List Row) (p : ℕ) (t : Target) (past : List Event) → stamp (with_more c more) p t past ≡ stamp c p t past
stamp_kept c more p t [] = refl
stamp_kept c more p t (e ∷ past) = rw (drain_kept c more p t past e.by e.verb, stamp_kept c more p t past) refl

target_kept : (c : Config) (more : List Row) (p : ℕ) (t : Target) (past : List Event) → target_word (with_more c more) p t past ≡ target_word c p t past
target_kept c more p t past = rw (stamp_kept c more p t past, content_kept c more p t past) refl

pub standing_kept : (c : Config) (more : List Row) (past : List Event) (n : Name) → standing_word (with_more c more) past n ≡ standing_word c past n
standing_kept c more past (Name.Min p) = target_kept c more p Target.Min past
standing_kept c more past (Name.Slot p s) = target_kept c more p (Target.Place s) past
standing_kept c more past n = refl

pub sights_kept : (c : Config) (more : List Row) (r : ℕ) (past : List Event) → sights (with_more c more) r past ≡ sights c r past
sights_kept c more r [] = refl
sights_kept c more r (e ∷ past) =
    ap (λ w. if e.by == r then ((e, loaded_by e.verb w) ∷ sights (with_more c more) r past) else sights (with_more c more) r past) (standing_kept c more past (name_of c r (part r past) e.verb))
    ∙ ap (λ s. if e.by == r then ((e, found_word c r past e.verb) ∷ s) else s) (sights_kept c more r past)

after_kept : (c : Config) (more : List Row) (p : ℕ) (t : Target) (v : Verb) (a : Answer) (w : ℕ) (k : ℕ × ℕ) → kept_after (with_more c more) p t v a w k ≡ kept_after c p t v a w k
after_kept c more p t (Verb.Look q i) a w k = refl
after_kept c more p t v a w k = refl

kept_kept : (c : Config) (more : List Row) (p : ℕ) (t : Target) (seen : List (Event × ℕ)) → kept (with_more c more) p t seen ≡ kept c p t seen
kept_kept c more p t [] = refl
kept_kept c more p t (x ∷ seen) = ap (λ k. kept_after (with_more c more) p t x.0.verb x.0.answer x.1 k) (kept_kept c more p t seen) ∙ after_kept c more p t x.0.verb x.0.answer x.1 (kept c p t seen)

fixed_kept : (c : Config) (more : List Row) (p : ℕ) (t : Option Target) (seen : List (Event × ℕ)) → fixed_word (with_more c more) p t seen ≡ fixed_word c p t seen
fixed_kept c more p None seen = refl
fixed_kept c more p (Some t) seen = ap (λ k. k.1) (kept_kept c more p t seen)

pub found_kept : (c : Config) (more : List Row) (r : ℕ) (f : Found) (mine : List Event) (seen : List (Event × ℕ)) → FoundIs c r f mine seen → FoundIs (with_more c more) r f mine seen
found_kept c more r f mine seen m = record {
  ring = m.ring;
  noted = m.noted;
  targets = m.targets;
  minimums = λ p l. m.minimums p l ∙ ap (λ k. Some k.0) (sym (kept_kept c more p Target.Min seen));
  places = λ p s l i. m.places p s l i ∙ ap (λ k. Some k.0) (sym (kept_kept c more p (Target.Place s) seen));
  fixed = λ p l. m.fixed p l ∙ ap Some (sym (fixed_kept c more p (last_entered p mine) seen));
  loaded = m.loaded;
  close_target = m.close_target;
  close_grant = m.close_grant;
}

pub words_stay_law : WordsStay
words_stay_law c more l events words stands = λ n is. stands n is ∙ sym (standing_kept c more (history events) n)

pub founds_stay_law : FoundsStay
founds_stay_law c more r f mine past m = subst (λ s. FoundIs (with_more c more) r f mine s) (sym (sights_kept c more r past)) (found_kept c more r f mine (sights c r past) m)
