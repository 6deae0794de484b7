-- What a replica keeps of the words that it found, after a fence was read, a position looked at or a region entered.
use Rattle.std.proofs.Common.{◌≡◌, ℕ, ◌+◌, ◌*◌, ◌%◌, ◌<◌, Bool, true, false, cond, ◌&&◌, ◌==◌, List, [], ◌∷◌, refl, sym, ◌∙◌, ap, arith, Some, None, subst, eqb-true, true≢false, set}
use Rattle.std.specs.declared.option.Option.{Option}
use Rattle.std.specs.declared.vec.Vec.{Vec}
use Rattle.std.specs.declared.alloc.Global.{Global}
use Rattle.std.specs.List.{slice_get}
use Rattle.std.proofs.lemmas.Bool.{and_from, and_parts, eqb-false}
use Rattle.std.proofs.lemmas.Nat.{mod_below, same_from_place}
use Rattle.std.proofs.lemmas.Option.{slice_get_within}
use Rattle.mu_model.specs.declared.config.Config.{Config}
use Rattle.mu_model.specs.declared.event.Answer.{Answer}
use Rattle.mu_model.specs.declared.event.Event.{Event}
use Rattle.mu_model.specs.declared.event.Fence.{Fence}
use Rattle.mu_model.specs.declared.event.Target.{Target}
use Rattle.mu_model.specs.declared.event.Verb.{Verb}
use Rattle.mu_model.specs.Leaderships.{grant_for, noted_grant}
use Rattle.mu_model.proofs.Basics.{same_number}
use Rattle.mu_model.proofs.Lists.{get_set_here, get_set_other}
use Rattle.mu_words.specs.declared.found.Found.{Found}
use Rattle.mu_words.specs.Finding.{kept, kept_after, known_target}
use Rattle.mu_words.specs.Founds.{FoundIs, fixed_word, last_entered, sight}
use Rattle.mu_words.specs.Standing.{is_same_target}

-- a set place other than one that is there
set_other : {A : Type 0} (xs ys : List A) (p q : ℕ) (x : A) → ys ≡ set xs p x → (p == q) ≡ false → slice_get ys q ≡ slice_get xs q
set_other xs ys p q x is e = ap (λ zs. slice_get zs q) is ∙ get_set_other xs q p x (λ k. eqb-false p q e (sym k))

-- a set place that is there
set_here : {A : Type 0} (xs ys : List A) (p q : ℕ) (x y : A) → ys ≡ set xs p x → slice_get xs q ≡ Some y → (p == q) ≡ true → slice_get ys q ≡ Some x
set_here xs ys p q x y is there e =
    ap (λ zs. slice_get zs q) is ∙ subst (λ z. slice_get (set xs z x) q ≡ Some x) (sym (eqb-true p q e)) (get_set_here xs q x (slice_get_within xs q y there))

-- a fence that was read
pub fence_found : (c : Config) (r : ℕ) (f : Found) (mine : List Event) (seen : List (Event × ℕ)) (p w : ℕ) (fence : Fence) (ns : List (Option ℕ)) (ts : List Target)
    → ns ≡ set f.noted p (grant_for r (Some fence)) → ts ≡ set f.targets p fence.target → FoundIs c r f mine seen
    → FoundIs c r (record f { noted = ns; targets = ts }) ((record { by = r; verb = Verb.Fence p; answer = Answer.Seen fence }) ∷ mine) (sight r (Verb.Fence p) (Answer.Seen fence) w ∷ seen)
fence_found c r f mine seen p w fence ns ts is_ns is_ts was = record {
  ring = was.ring;
  noted = λ q low. noted_at q low (p == q) refl;
  targets = λ q low. target_at q low (p == q) refl;
  minimums = was.minimums;
  places = was.places;
  fixed = λ q low. was.fixed q low ∙ ap Some (fixed_at q (last_entered q mine));
  loaded = was.loaded;
  close_target = was.close_target;
  close_grant = was.close_grant;
}
  where
    noted_at : (q : ℕ) → q < c.replicas → (t : Bool) → (p == q) ≡ t → slice_get ns q ≡ Some (noted_grant r q ((record { by = r; verb = Verb.Fence p; answer = Answer.Seen fence }) ∷ mine))
    noted_at q low true e = set_here f.noted ns p q (grant_for r (Some fence)) (noted_grant r q mine) is_ns (was.noted q low) e ∙ rw (same_number r, e) refl
    noted_at q low false e = set_other f.noted ns p q (grant_for r (Some fence)) is_ns e ∙ was.noted q low ∙ rw (same_number r, e) refl

    target_at : (q : ℕ) → q < c.replicas → (t : Bool) → (p == q) ≡ t → slice_get ts q ≡ Some (known_target r q ((record { by = r; verb = Verb.Fence p; answer = Answer.Seen fence }) ∷ mine))
    target_at q low true e = set_here f.targets ts p q fence.target (known_target r q mine) is_ts (was.targets q low) e ∙ rw (same_number r, e) refl
    target_at q low false e = set_other f.targets ts p q fence.target is_ts e ∙ was.targets q low ∙ rw (same_number r, e) refl

    fixed_at : (q : ℕ) (o : Option Target) → fixed_word c q o seen ≡ fixed_word c q o (sight r (Verb.Fence p) (Answer.Seen fence) w ∷ seen)
    fixed_at q None = refl
    fixed_at q (Some t) = refl

-- a position that was looked at
pub look_found : (c : Config) (r : ℕ) (f : Found) (mine : List Event) (seen : List (Event × ℕ)) (p i j w : ℕ) (a : Answer) (vs : Vec ℕ Global)
    → 0 < f.ring → j ≡ p * f.ring + i % f.ring → vs.items ≡ set f.places.items j w → FoundIs c r f mine seen
    → FoundIs c r (record f { places = vs }) ((record { by = r; verb = Verb.Look p i; answer = a }) ∷ mine) (sight r (Verb.Look p i) a w ∷ seen)
look_found c r f mine seen p i j w a vs some at is was = record {
  ring = was.ring;
  noted = was.noted;
  targets = was.targets;
  minimums = was.minimums;
  places = λ q s low inside. place_at q s low inside ((s == i % c.ring) && (p == q)) refl;
  fixed = λ q low. was.fixed q low ∙ ap Some (fixed_at q (last_entered q mine));
  loaded = was.loaded;
  close_target = was.close_target;
  close_grant = was.close_grant;
}
  where
    second : (t : Bool) (k : ℕ × ℕ) → k.1 ≡ (cond t (w, k.1) k).1
    second true k = refl
    second false k = refl

    fixed_at : (q : ℕ) (o : Option Target) → fixed_word c q o seen ≡ fixed_word c q o (sight r (Verb.Look p i) a w ∷ seen)
    fixed_at q None = refl
    fixed_at q (Some t) = second (is_same_target t (Target.Place (i % c.ring)) && (p == q)) (kept c q t seen)

    is_at : j ≡ p * c.ring + i % c.ring
    is_at = at ∙ ap (λ z. p * z + i % z) was.ring

    place_at : (q s : ℕ) → q < c.replicas → s < c.ring → (t : Bool) → ((s == i % c.ring) && (p == q)) ≡ t
        → slice_get vs.items (q * c.ring + s) ≡ Some ((cond ((s == i % c.ring) && (p == q)) (w, (kept c q (Target.Place s) seen).1) (kept c q (Target.Place s) seen)).0)
    place_at q s low inside true e =
        let both = and_parts (s == i % c.ring) (p == q) e in
        let here : q * c.ring + s ≡ j = ap (λ z. z * c.ring + s) (sym (eqb-true p q both.1)) ∙ ap (λ z. p * c.ring + z) (eqb-true s (i % c.ring) both.0) ∙ sym is_at in
        let within = slice_get_within f.places.items (q * c.ring + s) ((kept c q (Target.Place s) seen).0) (was.places q s low inside) in
        rw e (ap (λ zs. slice_get zs (q * c.ring + s)) is ∙ subst (λ z. slice_get (set f.places.items z w) (q * c.ring + s) ≡ Some w) here (get_set_here f.places.items (q * c.ring + s) w within))
    place_at q s low inside false e =
        let apart : q * c.ring + s ≡ j → ⊥ = λ k.
        (let n = same_from_place q s p (i % c.ring) c.ring inside (mod_below i c.ring (let m = was.ring in omega arith)) (k ∙ is_at) in
        true≢false (sym (and_from (s == i % c.ring) (p == q) (subst (λ z. (s == z) ≡ true) n.1 (same_number s)) (subst (λ z. (p == z) ≡ true) (sym n.0) (same_number p))) ∙ e)) in
        rw e (ap (λ zs. slice_get zs (q * c.ring + s)) is ∙ get_set_other f.places.items (q * c.ring + s) j w apart ∙ was.places q s low inside)

-- an `Enter` keeps what was seen last, and fixes it at its region
entered_first : (t : Bool) (k : ℕ × ℕ) → k.0 ≡ (cond t (k.0, k.0) k).0
entered_first true k = refl
entered_first false k = refl

entered_fixed : (c : Config) (r : ℕ) (seen : List (Event × ℕ)) (p q w : ℕ) (u : Target) (a : Answer) → (p == q) ≡ false → (o : Option Target) → fixed_word c q o seen ≡ fixed_word c q o (sight r (Verb.Enter p u) a w ∷ seen)
entered_fixed c r seen p q w u a e None = refl
entered_fixed c r seen p q w u a e (Some t) = sym (ap (λ z. (cond z ((kept c q t seen).0, (kept c q t seen).0) (kept c q t seen)).1) e)

entered_last : (r : ℕ) (mine : List Event) (p q : ℕ) (u : Target) (a : Answer) → (p == q) ≡ true → last_entered q ((record { by = r; verb = Verb.Enter p u; answer = a }) ∷ mine) ≡ Some u
entered_last r mine p q u a e = rw e refl

-- the fixed words after an `Enter`
fixed_found : (c : Config) (r : ℕ) (f : Found) (mine : List Event) (seen : List (Event × ℕ)) (p w x : ℕ) (u : Target) (a : Answer) (ws : List ℕ) → ws ≡ set f.fixed p x → x ≡ (kept c p u seen).0 → FoundIs c r f mine seen
    → (q : ℕ) → q < c.replicas → (t : Bool) → (p == q) ≡ t
    → slice_get ws q ≡ Some (fixed_word c q (last_entered q ((record { by = r; verb = Verb.Enter p u; answer = a }) ∷ mine)) (sight r (Verb.Enter p u) a w ∷ seen))
fixed_found c r f mine seen p w x u a ws is saw was q low true e =
    set_here f.fixed ws p q x (fixed_word c q (last_entered q mine) seen) is (was.fixed q low) e
    ∙ ap Some (saw ∙ ap (λ z. (kept c z u seen).0) (eqb-true p q e) ∙ sym (ap (λ z. (cond z ((kept c q u seen).0, (kept c q u seen).0) (kept c q u seen)).1) e))
    ∙ sym (ap (λ o. Some (fixed_word c q o (sight r (Verb.Enter p u) a w ∷ seen))) (entered_last r mine p q u a e))
fixed_found c r f mine seen p w x u a ws is saw was q low false e =
    set_other f.fixed ws p q x is e ∙ was.fixed q low ∙ rw e (ap Some (entered_fixed c r seen p q w u a e (last_entered q mine)))

-- a region that was entered
pub entered_found : (c : Config) (r : ℕ) (f : Found) (mine : List Event) (seen : List (Event × ℕ)) (p w x : ℕ) (u : Target) (ws : List ℕ) (ts : List Target)
    → ws ≡ set f.fixed p x → ts ≡ set f.targets p u → x ≡ (kept c p u seen).0 → FoundIs c r f mine seen
    → FoundIs c r (record f { fixed = ws; targets = ts }) ((record { by = r; verb = Verb.Enter p u; answer = Answer.Entered }) ∷ mine) (sight r (Verb.Enter p u) Answer.Entered w ∷ seen)
entered_found c r f mine seen p w x u ws ts is is_ts saw was = record {
  ring = was.ring;
  noted = was.noted;
  targets = λ q low. target_at q low (p == q) refl;
  minimums = λ q low. was.minimums q low ∙ ap Some (entered_first (p == q) (kept c q Target.Min seen));
  places = λ q s low inside. was.places q s low inside ∙ ap Some (entered_first (p == q) (kept c q (Target.Place s) seen));
  fixed = λ q low. fixed_found c r f mine seen p w x u Answer.Entered ws is saw was q low (p == q) refl;
  loaded = was.loaded;
  close_target = was.close_target;
  close_grant = was.close_grant;
}
  where
    target_at : (q : ℕ) → q < c.replicas → (t : Bool) → (p == q) ≡ t → slice_get ts q ≡ Some (known_target r q ((record { by = r; verb = Verb.Enter p u; answer = Answer.Entered }) ∷ mine))
    target_at q low true e = set_here f.targets ts p q u (known_target r q mine) is_ts (was.targets q low) e ∙ rw (same_number r, e) refl
    target_at q low false e = set_other f.targets ts p q u is_ts e ∙ was.targets q low ∙ rw (same_number r, e) refl

-- a region that was not
pub lost_found : (c : Config) (r : ℕ) (f : Found) (mine : List Event) (seen : List (Event × ℕ)) (p w x : ℕ) (u : Target) (a : Answer) (ws : List ℕ)
    → ws ≡ set f.fixed p x → (a ≡ Answer.Entered → ⊥) → x ≡ (kept c p u seen).0 → FoundIs c r f mine seen
    → FoundIs c r (record f { fixed = ws }) ((record { by = r; verb = Verb.Enter p u; answer = a }) ∷ mine) (sight r (Verb.Enter p u) a w ∷ seen)
lost_found c r f mine seen p w x u Answer.Entered ws is not_entered saw was = absurd (not_entered refl)
lost_found c r f mine seen p w x u a ws is not_entered saw was = record {
  ring = was.ring;
  noted = was.noted;
  targets = was.targets;
  minimums = λ q low. was.minimums q low ∙ ap Some (entered_first (p == q) (kept c q Target.Min seen));
  places = λ q s low inside. was.places q s low inside ∙ ap Some (entered_first (p == q) (kept c q (Target.Place s) seen));
  fixed = λ q low. fixed_found c r f mine seen p w x u a ws is saw was q low (p == q) refl;
  loaded = was.loaded;
  close_target = was.close_target;
  close_grant = was.close_grant;
}

-- no target names no word
abbrev IsNothing : ℕ × ℕ → Type 0
IsNothing k = (k.0 ≡ 0) × (k.1 ≡ 0)

none_after : (c : Config) (p : ℕ) (v : Verb) (a : Answer) (w : ℕ) (k : ℕ × ℕ) → IsNothing k → IsNothing (kept_after c p Target.None v a w k)
none_after c p (Verb.Enter q u) a w k is = go (q == p)
  where
    go : (t : Bool) → IsNothing (cond t (k.0, k.0) k)
    go true = (is.0, is.0)
    go false = is
none_after c p (Verb.PutMin q b) Answer.Done w k is = is
none_after c p v a w k is = is

none_kept : (c : Config) (p : ℕ) (seen : List (Event × ℕ)) → IsNothing (kept c p Target.None seen)
none_kept c p [] = (refl, refl)
none_kept c p (x ∷ seen) = none_after c p x.0.verb x.0.answer x.1 (kept c p Target.None seen) (none_kept c p seen)

pub none_seen : (c : Config) (p : ℕ) (t : Target) (seen : List (Event × ℕ)) → t ≡ Target.None → 0 ≡ (kept c p t seen).0
none_seen c p t seen is = subst (λ u. 0 ≡ (kept c p u seen).0) (sym is) (sym (none_kept c p seen).0)
