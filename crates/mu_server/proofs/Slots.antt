-- All connections of a server: what is done for one, and one thing after the other.
use Rattle.std.proofs.Common.{◌≡◌, ◌≢◌, ◌∙◌, ℕ, zero, suc, ◌<◌, ◌≤◌, ◌==◌, Bool, true, false, List, [], ◌∷◌, ◌++◌, Some, None, ap, arith, eqb-true, length, refl, set, subst, sym}
use Rattle.std.specs.Prelude.{if◌then◌else◌}
use Rattle.std.specs.List.{slice_get}
use Rattle.std.proofs.lemmas.Bool.{eqb-false}
use Rattle.std.proofs.lemmas.List.{length-set}
use Rattle.std.proofs.lemmas.Option.{slice_get_within}
use Rattle.ordered_store.specs.Moments.{Moment, Orders}
use Rattle.ordered_store.proofs.Going.{get_front}
use Rattle.mu_server.specs.Holding.{HoldsLife, HoldsSession, Life, rows_so_far}
use Rattle.mu_server.specs.Serving.{LifeGoesOn, MovesAt, MovesTo, Serves, ServesOne, bytes_of, no_bytes}
use Rattle.mu_server.specs.Opening.{Opens}
use Rattle.mu_server.specs.Sessions.{Session, first_session}
use Rattle.mu_server.specs.declared.connection.Connection.{Connection}
use Rattle.mu_server.proofs.Lives.{life-along, life-more, life-same, moves-along, moves-same, rows-grow, session-goes, with_order}

pub get_set_here : {A : Type 0} (xs : List A) (i : ℕ) (z : A) → i < length xs → slice_get (set xs i z) i ≡ Some z
get_set_here [] i z l = absurd (omega arith)
get_set_here (x ∷ xs) zero z l = refl
get_set_here (x ∷ xs) (suc i) z l = get_set_here xs i z (omega (arith, l))

pub get_set_other : {A : Type 0} (xs : List A) (i j : ℕ) (z : A) → i ≢ j → slice_get (set xs j z) i ≡ slice_get xs i
get_set_other [] i j z d = refl
get_set_other (x ∷ xs) zero zero z d = absurd (d refl)
get_set_other (x ∷ xs) zero (suc j) z d = refl
get_set_other (x ∷ xs) (suc i) zero z d = refl
get_set_other (x ∷ xs) (suc i) (suc j) z d = get_set_other xs i j z (λ e. d (ap suc e))

-- nothing is done
pub one-same : (stands : Moment → Type 0) (replicas : ℕ) (life : Life) (number : ℕ) (c : Connection) → HoldsLife stands replicas life → ServesOne stands replicas life number c c
one-same stands replicas life number c now = record {
  after = life;
  goes = life-same life;
  now = now;
  moves = λ session holds. record { next = session; moves = moves-same (rows_so_far life) session; holds = holds };
}

-- one thing is done after the other, for one connection
pub one-along : (stands later : Moment → Type 0) (replicas more : ℕ) (life : Life) (number : ℕ) (old between new : Connection) → (first : ServesOne stands replicas life number old between) → ServesOne later more first.after number between new
    → ServesOne later more life number old new
one-along stands later replicas more life number old between new first second = record {
  after = second.after;
  goes = life-along life first.after second.after first.goes second.goes;
  now = second.now;
  moves = λ session holds.
      let a = first.moves session holds in
      let b = second.moves a.next a.holds in
      record { next = b.next; moves = moves-along (rows_so_far life) (rows_so_far first.after) [] [] [] [] session a.next b.next (rows-grow life first.after first.goes) a.moves b.moves; holds = b.holds };
}

-- for one connection at the same moment
pub one-now : (stands : Moment → Type 0) (replicas : ℕ) (life : Life) (number : ℕ) (old new : Connection) → HoldsLife stands replicas life → ((session : Session) → HoldsSession life number session old → MovesTo (rows_so_far life) life number [] [] session new)
    → ServesOne stands replicas life number old new
one-now stands replicas life number old new now moves = record { after = life; goes = life-same life; now = now; moves = moves }

pub serves-same : (stands : Moment → Type 0) (replicas : ℕ) (life : Life) (connections : List Connection) → HoldsLife stands replicas life → Serves stands replicas life no_bytes no_bytes connections connections
serves-same stands replicas life connections now = record {
  after = life;
  goes = life-same life;
  now = now;
  count = refl;
  moves = λ number c session at holds. record { connection = c; there = at; to = record { next = session; moves = moves-same (rows_so_far life) session; holds = holds } };
}

pub serves-along : (stands later : Moment → Type 0) (replicas more : ℕ) (life : Life) (old between new : List Connection) → (first : Serves stands replicas life no_bytes no_bytes old between)
    → Serves later more first.after no_bytes no_bytes between new → Serves later more life no_bytes no_bytes old new
serves-along stands later replicas more life old between new first second = record {
  after = second.after;
  goes = life-along life first.after second.after first.goes second.goes;
  now = second.now;
  count = second.count ∙ first.count;
  moves = λ number c session at holds.
      let a = first.moves number c session at holds in
      let b = second.moves number a.connection a.to.next a.there a.to.holds in
      record { connection = b.connection; there = b.there; to = record { next = b.to.next; moves = moves-along (rows_so_far life) (rows_so_far first.after) [] [] [] [] session a.to.next b.to.next (rows-grow life first.after first.goes) a.to.moves b.to.moves; holds = b.to.holds } };
}

-- the store goes on alone
pub serves-life : (stands : Moment → Type 0) (replicas : ℕ) (life after : Life) (connections : List Connection) → LifeGoesOn life after → HoldsLife stands replicas after → Serves stands replicas life no_bytes no_bytes connections connections
serves-life stands replicas life after connections goes now = record {
  after = after;
  goes = goes;
  now = now;
  count = refl;
  moves = λ number c session at holds. record { connection = c; there = at; to = record { next = session; moves = moves-same (rows_so_far life) session; holds = session-goes life after number session c goes holds } };
}

-- what is done for one connection is done for all
pub serves-at : (stands : Moment → Type 0) (replicas : ℕ) (life : Life) (old : List Connection) (at : ℕ) (c new : Connection) → slice_get old at ≡ Some c → ServesOne stands replicas life at c new
    → Serves stands replicas life no_bytes no_bytes old (set old at new)
serves-at stands replicas life old at c new there one = record {
  after = one.after;
  goes = one.goes;
  now = one.now;
  count = length-set old at new;
  moves = λ number d session here holds. go number d session here holds (number == at) refl;
}
  where
    go : (number : ℕ) (d : Connection) (session : Session) → slice_get old number ≡ Some d → HoldsSession life number session d → (b : Bool) → (number == at) ≡ b → MovesAt (rows_so_far life) one.after number [] [] session (set old at new)
    go number d session here holds true is =
        let same : number ≡ at = eqb-true number at is in
        let both : Some d ≡ Some c = sym here ∙ ap (slice_get old) same ∙ there in
        let d_is : d ≡ c = cc in
        let moved : MovesTo (rows_so_far life) one.after at [] [] session new = one.moves session (subst (λ n. HoldsSession life n session c) same (subst (HoldsSession life number session) d_is holds)) in
        record {
          connection = new;
          there = ap (slice_get (set old at new)) same ∙ get_set_here old at new (slice_get_within old at c there);
          to = subst (λ n. MovesTo (rows_so_far life) one.after n [] [] session new) (sym same) moved;
        }
    go number d session here holds false is =
        record {
          connection = d;
          there = get_set_other old number at new (eqb-false number at is) ∙ here;
          to = record { next = session; moves = moves-same (rows_so_far life) session; holds = session-goes life one.after number session d one.goes holds };
        }

-- what moves one session, with bytes that come or are given, leaves the others
pub moves-at : (life : Life) (old : List Connection) (at : ℕ) (c new : Connection) (came gave : ℕ → List ℕ) → slice_get old at ≡ Some c → ((number : ℕ) → (number == at) ≡ false → (came number ≡ []) × (gave number ≡ []))
    → ((session : Session) → HoldsSession life at session c → MovesTo (rows_so_far life) life at (came at) (gave at) session new)
    → (number : ℕ) (d : Connection) (session : Session) → slice_get old number ≡ Some d → HoldsSession life number session d
    → MovesAt (rows_so_far life) life number (came number) (gave number) session (set old at new)
moves-at life old at c new came gave there none moves number d session here holds = go (number == at) refl
  where
    go : (b : Bool) → (number == at) ≡ b → MovesAt (rows_so_far life) life number (came number) (gave number) session (set old at new)
    go true is =
        let same : number ≡ at = eqb-true number at is in
        let both : Some d ≡ Some c = sym here ∙ ap (slice_get old) same ∙ there in
        let d_is : d ≡ c = cc in
        let moved : MovesTo (rows_so_far life) life at (came at) (gave at) session new = moves session (subst (λ n. HoldsSession life n session c) same (subst (HoldsSession life number session) d_is holds)) in
        record {
          connection = new;
          there = ap (slice_get (set old at new)) same ∙ get_set_here old at new (slice_get_within old at c there);
          to = subst (λ n. MovesTo (rows_so_far life) life n (came n) (gave n) session new) (sym same) moved;
        }
    go false is =
        let stays : MovesTo (rows_so_far life) life number [] [] session d = record { next = session; moves = moves-same (rows_so_far life) session; holds = holds } in
        let no = none number is in
        record {
          connection = d;
          there = get_set_other old number at new (eqb-false number at is) ∙ here;
          to = subst (λ l. MovesTo (rows_so_far life) life number l (gave number) session d) (sym no.0) (subst (λ l. MovesTo (rows_so_far life) life number [] l session d) (sym no.1) stays);
        }

pub bytes-there : (at number : ℕ) (bytes : List ℕ) → (number == at) ≡ false → bytes_of at bytes number ≡ []
bytes-there at number bytes is = ap (λ b. if b then bytes else []) is

pub bytes-here : (at : ℕ) (bytes : List ℕ) → bytes_of at bytes at ≡ bytes
bytes-here at bytes = go (at == at) refl
  where
    go : (b : Bool) → (at == at) ≡ b → bytes_of at bytes at ≡ bytes
    go true is = ap (λ b. if b then bytes else []) is
    go false is = absurd (eqb-false at at is refl)

-- one thing is done after the other, at the same moment
pub to-along : (life : Life) (number : ℕ) (session : Session) (between new : Connection) → MovesTo (rows_so_far life) life number [] [] session between
    → ((next : Session) → HoldsSession life number next between → MovesTo (rows_so_far life) life number [] [] next new) → MovesTo (rows_so_far life) life number [] [] session new
to-along life number session between new first second =
    let later = second first.next first.holds in
    record { next = later.next; moves = moves-along (rows_so_far life) (rows_so_far life) [] [] [] [] session first.next later.next (omega arith) first.moves later.moves; holds = later.holds }

abbrev nothing_if : Bool → List ℕ
nothing_if b = if b then [] else []

pub bytes-none : (at number : ℕ) → bytes_of at [] number ≡ []
bytes-none at number = go (number == at)
  where
    go : (b : Bool) → nothing_if b ≡ []
    go true = refl
    go false = refl

-- nothing moves
pub moves-none : (life : Life) (number : ℕ) (c : Connection) (session : Session) (all : List Connection) → slice_get all number ≡ Some c → HoldsSession life number session c → MovesAt (rows_so_far life) life number [] [] session all
moves-none life number c session all here holds = record { connection = c; there = here; to = record { next = session; moves = moves-same (rows_so_far life) session; holds = holds } }

-- a new connection behind the others
pub opens-pushed : (life : Life) (number : ℕ) (old : List Connection) (c : Connection) → number ≡ length old → HoldsSession life number (first_session (length life.moment.submitted)) c → Opens life number old (old ++ c ∷ [])
opens-pushed life number old c is holds = record {
  connection = c;
  there = get_push old c number is;
  holds = holds;
  others = λ k other_than other here. get_front old (c ∷ []) k other here;
}
  where
    get_push : (xs : List Connection) (x : Connection) (i : ℕ) → i ≡ length xs → slice_get (xs ++ x ∷ []) i ≡ Some x
    get_push [] x i e = ap (slice_get (x ∷ [])) e
    get_push (y ∷ xs) x i e = ap (slice_get (y ∷ (xs ++ x ∷ []))) e ∙ get_push xs x (length xs) refl

-- one round of the store
pub serves-round : (stands later : Moment → Type 0) (replicas more : ℕ) (life : Life) (connections : List Connection) → ((moment : Moment) → stands moment → Orders later moment) → more ≡ replicas → HoldsLife stands replicas life
    → Serves later more life no_bytes no_bytes connections connections
serves-round stands later replicas more life connections orders same now =
    let o = orders life.moment now.now in
    serves-life later more life (with_order life o.more) connections (life-more life o.more) (record { now = o.now; replicas_are = same ∙ now.replicas_are; known = now.known })

-- over lists that are the same
pub serves-over : (stands : Moment → Type 0) (replicas : ℕ) (life : Life) (old new from to : List Connection) → from ≡ old → to ≡ new → Serves stands replicas life no_bytes no_bytes from to → Serves stands replicas life no_bytes no_bytes old new
serves-over stands replicas life old new from to a b serves = subst (λ l. Serves stands replicas life no_bytes no_bytes l new) a (subst (Serves stands replicas life no_bytes no_bytes from) b serves)

-- nothing is done
pub to-same : (life : Life) (number : ℕ) (session : Session) (c : Connection) → HoldsSession life number session c → MovesTo (rows_so_far life) life number [] [] session c
to-same life number session c holds = record { next = session; moves = moves-same (rows_so_far life) session; holds = holds }
