-- What the steps of a seat ask, and what they leave.
use Rattle.std.proofs.Common.{◌≡◌, ℕ, slice_index, ◌<◌, List, [], ◌∷◌, sym, ap, subst, ◌∙◌, arith}
use Rattle.atomic_table.specs.Table.{Allows, Me, carried_after}
use Rattle.mu_model.specs.declared.config.Config.{Config}
use Rattle.mu_model.specs.declared.event.Answer.{Answer}
use Rattle.mu_model.specs.declared.event.Event.{Event}
use Rattle.mu_model.specs.declared.event.Verb.{Verb}
use Rattle.mu_model.specs.Allowed.{Allowed}
use Rattle.mu_model.specs.Parts.{IsPossible}
use Rattle.mu_model.proofs.Basics.{same_some}
use Rattle.mu_words.specs.declared.layout.Layout.{Layout}
use Rattle.mu_words.specs.declared.layout.Name.{Name}
use Rattle.mu_words.specs.declared.verbs.Move.{Move}
use Rattle.mu_words.specs.Finding.{expected, loaded_by, name_of}
use Rattle.mu_words.specs.Founds.{FoundIs, IsPrepared, Notes}
use Rattle.mu_words.specs.Places.{IsName, place_of}
use Rattle.mu_words.specs.Verbs.{IsLike, IsMove, VerbFits, WordFits, answer_from, move_of, name_at}
use Rattle.mu_words.proofs.Fitting.{verb_fits}
use Rattle.mu_words.proofs.Law.{place_named}
use Rattle.mu_words.proofs.Limits.{Limits, config_is_limited}
use Rattle.mu_words.proofs.Places.{places_inside_law}
use Rattle.mu_words.proofs.Prepared.{allowed_are_prepared_law}
use Rattle.shared_steps.specs.declared.rule.View.{View}
use Rattle.shared_steps.specs.declared.seat.PortSeat.TheInside as seat
use Rattle.shared_steps.specs.declared.words.Words.TheInside as words
use Rattle.shared_steps.specs.Insides.{IsBoard, IsPort, Seated, board_of, mine_of, port_of}
use Rattle.shared_steps.specs.Rule.{Holds, Told, event_at, layout_of, part_in, single}
use Rattle.shared_steps.specs.Moves.{left_by, told_by}
use Rattle.shared_steps.specs.Seats.{Board, IsOf, Port}
use Rattle.shared_steps.proofs.Effects.{does}
use Rattle.shared_steps.proofs.Keeps.{Does, layout_is, steps}

-- a seat of these words, and a verb that is allowed after its part
pub record Ready (w : words.Inside) (s : seat.Inside) (v : Verb) : Type 0 where
  pub board : IsBoard w
  pub port : IsPort s
  pub of : IsOf (board_of w) (port_of s)
  pub allowed : Allowed w.table.shared.key s.id (mine_of s) v

pub seat_is_ready : (w : words.Inside) (s : seat.Inside) (v : Verb) (b : Board) (p : Port) → board_of w ≡ b → port_of s ≡ p → IsBoard w → IsPort s → IsOf b p → Allowed b.key p.id p.part v → Ready w s v
seat_is_ready w s v b p is_b is_p board port of may = record {
  board = board;
  port = port;
  of = subst (λ (k : Board × Port). IsOf k.0 k.1) (λ i. ((sym is_b) i, (sym is_p) i)) of;
  allowed = subst (λ (k : Board × Port). Allowed k.0.key k.1.id k.1.part v) (λ i. ((sym is_b) i, (sym is_p) i)) may;
}

-- the seat has the configuration of the table
pub seated : (w : words.Inside) (s : seat.Inside) (v : Verb) → Ready w s v → Seated w.table.shared.key s.id (mine_of s) s.found s.seat.me
seated w s v r =
    let old = r.port.seated in
    let same : r.port.config ≡ w.table.shared.key = same_some r.port.config w.table.shared.key (sym (ap (λ (m : Me (Unit {0}) View). m.0.config) old.is_single) ∙ r.of.config) in
    subst (λ (c : Config). Seated c s.id (mine_of s) s.found s.seat.me) same old

-- the same of a part whose list is known
name_there : (c : Config) (r : ℕ) (mine : List Event) (v : Verb) → Limits c → IsPossible c r mine → Allowed c r mine v → IsName (layout_of c) (name_of c r mine v)
name_there c r mine v l p may =
    subst (λ (m : List Event). IsName (layout_of c) (name_of c r m v)) p.is (place_named c (layout_of c) p.past r v l (layout_is c) p.legal (subst (λ (m : List Event). Allowed c r m v) (sym p.is) may))

fits_there : (c : Config) (r : ℕ) (mine : List Event) (v : Verb) → Limits c → IsPossible c r mine → Allowed c r mine v → VerbFits c.ring v
fits_there c r mine v l p may = verb_fits c p.past r v l p.legal (subst (λ (m : List Event). Allowed c r m v) (sym p.is) may)

prepared_there : (c : Config) (r : ℕ) (mine : List Event) (v : Verb) → IsPossible c r mine → Allowed c r mine v → IsPrepared c mine v
prepared_there c r mine v p may = subst (λ (m : List Event). IsPrepared c m v) p.is (allowed_are_prepared_law c r p.past v (subst (λ (m : List Event). Allowed c r m v) (sym p.is) may))

pub prepared : (w : words.Inside) (s : seat.Inside) (v : Verb) → Ready w s v → IsPrepared w.table.shared.key (mine_of s) v
prepared w s v r = prepared_there w.table.shared.key s.id (mine_of s) v (seated w s v r).possible r.allowed

pub verb_in_range : (w : words.Inside) (s : seat.Inside) (v : Verb) → Ready w s v → VerbFits w.layout.ring v
verb_in_range w s v r = subst (λ (l : Layout). VerbFits l.ring v) (sym r.board.layout) (fits_there w.table.shared.key s.id (mine_of s) v (config_is_limited w.table.shared.key r.board.is_config) (seated w s v r).possible r.allowed)

-- the name as the code has it
name_is : (w : words.Inside) (s : seat.Inside) (v : Verb) → Ready w s v → name_at w.layout.ring s.id s.found.close_target v ≡ name_of w.table.shared.key s.id (mine_of s) v
name_is w s v r = λ i. name_at ((r.board.layout i).ring) s.id ((seated w s v r).found_is.close_target i) v

pub name_is_of_layout : (w : words.Inside) (s : seat.Inside) (v : Verb) → Ready w s v → IsName w.layout (name_at w.layout.ring s.id s.found.close_target v)
name_is_of_layout w s v r =
    subst (λ (k : Layout × Name). IsName k.0 k.1) (λ i. ((sym r.board.layout) i, (sym (name_is w s v r)) i))
    (name_there w.table.shared.key s.id (mine_of s) v (config_is_limited w.table.shared.key r.board.is_config) (seated w s v r).possible r.allowed)

place_is : (w : words.Inside) (s : seat.Inside) (v : Verb) (i : ℕ) → Ready w s v → i ≡ place_of w.layout (name_at w.layout.ring s.id s.found.close_target v) → i ≡ place_of (layout_of w.table.shared.key) (name_of w.table.shared.key s.id (mine_of s) v)
place_is w s v i r is = is ∙ (λ j. place_of (r.board.layout j) (name_is w s v r j))

pub place_is_inside : (w : words.Inside) (s : seat.Inside) (v : Verb) (i : ℕ) → Ready w s v → i ≡ place_of w.layout (name_at w.layout.ring s.id s.found.close_target v) → i < w.table.shared.table_id.words
place_is_inside w s v i r is =
    let key = w.table.shared.key in
    let there = places_inside_law (layout_of key) (name_of key s.id (mine_of s) v) (name_there key s.id (mine_of s) v (config_is_limited key r.board.is_config) (seated w s v r).possible r.allowed) in
    let at = place_is w s v i r is in
    let count = r.board.count in
    omega (arith, there, at, count)

-- what is kept of the words found tells what an exchange expects
pub expects_kept : (w : words.Inside) (s : seat.Inside) (v : Verb) (r : Ready w s v) (x : ℕ) → ((c : Config) (mine : List Event) (seen : List (Event × ℕ)) → FoundIs c s.id s.found mine seen → IsPrepared c mine v → x ≡ expected c s.id mine seen v)
    → x ≡ expected w.table.shared.key s.id (mine_of s) (seated w s v r).seen v
expects_kept w s v r x tells = tells w.table.shared.key (mine_of s) (seated w s v r).seen (seated w s v r).found_is (prepared w s v r)

-- what a step of the verb tells, by the word that its move tells
told_like : (fits : ℕ → Type 0) (this m : Move) (n : ℕ) → IsLike fits this m → told_by m n ≡ told_by this n
told_like fits (Move.Exchange old new) m n is = ap (λ k. told_by k n) is.1
told_like fits this m n is = ap (λ k. told_by k n) is

told_move : (ring grant : ℕ) (v : Verb) (x : ℕ) (me : Me (Unit {0}) View) (n : ℕ) (after : Me (Unit {0}) View) → Told v me n after → Told v me (told_by (move_of ring grant v x) n) after
told_move ring grant (Verb.WriteRow j k y) x me n after told = λ c r mine seen so. let g = told c r mine seen so in record { is = g.is; possible = g.possible }
told_move ring grant v x me n after told = told

told_as : (ring grant : ℕ) (v : Verb) (x : ℕ) (m : Move) → IsMove ring grant v x m → (me : Me (Unit {0}) View) (n : ℕ) (after : Me (Unit {0}) View) → Told v me n after → Told v me (told_by m n) after
told_as ring grant v x m is me n after told =
    subst (λ k. Told v me k after) (sym (told_like (WordFits v) (move_of ring grant v x) m n is)) (told_move ring grant v x me n after told)

-- what `steps` asks, at the seat as the port has it
pub allows : (w : words.Inside) (s : seat.Inside) (v : Verb) (i : ℕ) (f : ℕ → ℕ) → (r : Ready w s v) → i ≡ place_of w.layout (name_at w.layout.ring s.id s.found.close_target v)
    → Does w.table.shared.key s.id (mine_of s) (seated w s v r).seen v f
    → Allows (Holds w.table.shared.key) w.table.shared.table_id.slots s.seat.id s.seat.me i f (Told v s.seat.me)
allows w s v i f r is does =
    let key = w.table.shared.key in
    let now = seated w s v r in
    subst (λ (k : ℕ × Me (Unit {0}) View). Allows (Holds key) k.0 s.seat.id k.1 i f (Told v k.1)) (λ j. ((sym r.board.slots) j, (sym now.is_single) j))
    (steps key s.seat.id s.id (mine_of s) now.seen v i f (place_is w s v i r is) r.allowed does)

-- the same of the move of the verb, if what is kept of the words found tells what it expects
pub allows_move : (w : words.Inside) (s : seat.Inside) (v : Verb) (i x : ℕ) (m : Move) → Ready w s v → i ≡ place_of w.layout (name_at w.layout.ring s.id s.found.close_target v)
    → ((c : Config) (mine : List Event) (seen : List (Event × ℕ)) → FoundIs c s.id s.found mine seen → IsPrepared c mine v → x ≡ expected c s.id mine seen v)
    → IsMove w.layout.ring s.found.close_grant v x m
    → Allows (Holds w.table.shared.key) w.table.shared.table_id.slots s.seat.id s.seat.me i (left_by m) (λ n. Told v s.seat.me (told_by m n))
allows_move w s v i x m r is tells makes t held slots at bound =
    let key = w.table.shared.key in
    let now = seated w s v r in
    let here = subst (λ (k : ℕ × ℕ). IsMove k.0 k.1 v x m) (λ j. ((r.board.layout j).ring, now.found_is.close_grant j)) makes in
    let k = allows w s v i (left_by m) r is (does key s.id (mine_of s) now.seen v x m r.board.is_config r.allowed (expects_kept w s v r x tells) here) t held slots at bound in
    (k.0, k.1, k.2, k.3, told_as _ _ v x m makes s.seat.me (slice_index t.words i) (k.0, carried_after s.seat.me.1 k.1) k.4)

-- a seat s that made the step of v, expected x, found n and answered a, is s' now
pub record Made (w : words.Inside) (s : seat.Inside) (v : Verb) (r : Ready w s v) (s' : seat.Inside) (n x : ℕ) (a : Answer) : Type 0 where
  pub table : s'.seat.table_id ≡ s.seat.table_id
  pub id : s'.id ≡ s.id
  pub told : Told v s.seat.me n s'.seat.me
  pub expects : x ≡ expected w.table.shared.key s.id (mine_of s) (seated w s v r).seen v
  pub answer : a ≡ answer_from w.layout.ring v x n
  pub found : Notes s.id v a n s.found s'.found

-- the seat has one event more
pub now_seated : (w : words.Inside) (s : seat.Inside) (v : Verb) (r : Ready w s v) (s' : seat.Inside) (n x : ℕ) (a : Answer) → Made w s v r s' n x a
    → Seated w.table.shared.key s.id ((record { by = s.id; verb = v; answer = a }) ∷ mine_of s) s'.found s'.seat.me
now_seated w s v r s' n x a m =
    let key = w.table.shared.key in
    let old = seated w s v r in
    let mine = mine_of s in
    let grew = m.told key s.id mine old.seen old.is_single in
    let e : Event = record { by = s.id; verb = v; answer = a } in
    let is_a : answer_from key.ring v (expected key s.id mine old.seen v) n ≡ a = (λ i. answer_from ((sym r.board.layout i).ring) v (sym m.expects i) n) ∙ sym m.answer in
    let is_e : event_at key s.id mine old.seen v n ≡ e = ap (λ (b : Answer). record { by = s.id; verb = v; answer = b }) is_a in
    record {
      seen = (e, loaded_by v n) ∷ old.seen;
      is_single = grew.is ∙ (λ i. (single key s.id (is_e i ∷ mine) ((is_e i, loaded_by v n) ∷ old.seen), []));
      found_is = m.found key mine old.seen old.found_is (prepared w s v r);
      possible = subst (λ (y : Event). IsPossible key s.id (y ∷ mine)) is_e grew.possible;
    }

events_now : (w : words.Inside) (s : seat.Inside) (v : Verb) (r : Ready w s v) (s' : seat.Inside) (n x : ℕ) (a : Answer) → Made w s v r s' n x a → mine_of s' ≡ (record { by = s.id; verb = v; answer = a }) ∷ mine_of s
events_now w s v r s' n x a m = ap (λ (y : Me (Unit {0}) View). part_in y.0.entries) (now_seated w s v r s' n x a m).is_single

pub now_port : (w : words.Inside) (s : seat.Inside) (v : Verb) (r : Ready w s v) (s' : seat.Inside) (n x : ℕ) (a : Answer) → Made w s v r s' n x a → IsPort s'
now_port w s v r s' n x a m =
    let key = w.table.shared.key in
    let is = events_now w s v r s' n x a m in
    record {
      config = key;
      is_config = r.board.is_config;
      seated = subst (λ (k : ℕ × List Event). Seated key k.0 k.1 s'.found s'.seat.me) (λ i. ((sym m.id) i, (sym is) i)) (now_seated w s v r s' n x a m);
    }

pub now_part : (w : words.Inside) (s : seat.Inside) (v : Verb) (r : Ready w s v) (s' : seat.Inside) (n x : ℕ) (a : Answer) → Made w s v r s' n x a
    → port_of s' ≡ record { table = s.seat.table_id; config = s.seat.me.0.config; id = s.id; part = (record { by = s.id; verb = v; answer = a }) ∷ mine_of s }
now_part w s v r s' n x a m =
    let single_now = (now_seated w s v r s' n x a m).is_single in
    let single_was = (seated w s v r).is_single in
    let config = ap (λ (y : Me (Unit {0}) View). y.0.config) single_now ∙ sym (ap (λ (y : Me (Unit {0}) View). y.0.config) single_was) in
    λ i. record { table = m.table i; config = config i; id = m.id i; part = events_now w s v r s' n x a m i }

pub now_possible : (w : words.Inside) (s : seat.Inside) (v : Verb) (r : Ready w s v) (s' : seat.Inside) (n x : ℕ) (a : Answer) (b : Board) → board_of w ≡ b → Made w s v r s' n x a → IsPossible b.key s'.id (mine_of s')
now_possible w s v r s' n x a b is_b m =
    subst (λ (k : Board × ℕ × List Event). IsPossible k.0.key k.1 k.2) (λ i. (is_b i, (sym m.id) i, (sym (events_now w s v r s' n x a m)) i)) (now_seated w s v r s' n x a m).possible
