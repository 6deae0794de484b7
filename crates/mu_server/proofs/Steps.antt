-- What a connection holds after each step: a request is read and answered, or waits, or is none; a
-- reply is told; bytes come and are given.
use Rattle.std.proofs.Common.{◌≡◌, ◌∙◌, ℕ, suc, ◌≤◌, Bool, true, false, List, [], ◌∷◌, ◌++◌, Ok, Err, Some, append-nil, append_assoc, ap, arith, drop, inl, inr, length, map, refl, subst, sym, take}
use Rattle.std.specs.Prelude.{◌⊎◌}
use Rattle.std.specs.List.{AllByRecursion, flat_map, slice_get}
use Rattle.std.proofs.lemmas.List.{length-append, map-append}
use Rattle.kv_store.specs.Commands.{Request}
use Rattle.kv_store.specs.declared.command.Op.{Op}
use Rattle.mu_resp.specs.Requests.{request}
use Rattle.mu_resp.specs.Readings.{request_at}
use Rattle.mu_resp.specs.declared.stop.Stop.TheVariants as stop
use Rattle.mu_resp.specs.declared.stop.Fault.{Fault}
use Rattle.mu_redis.specs.Asking.{asks}
use Rattle.mu_redis.specs.declared.asked.Asked.{Asked}
use Rattle.mu_redis.specs.declared.wording.Wording.{Wording}
use Rattle.ordered_store.specs.Moments.{Moment, Takes, with_row}
use Rattle.ordered_store.proofs.Going.{get_front, goes_on-row}
use Rattle.mu_server.specs.Holding.{AreOwn, AscendFrom, HasRow, HoldsSession, IsAnswered, IsExchange, IsQuestion, IsReadUp, Life, waits_of, rows_so_far}
use Rattle.mu_server.specs.Looking.{SeesRequest}
use Rattle.mu_server.specs.Opening.{Rests}
use Rattle.mu_server.specs.Serving.{LifeGoesOn, MovesTo}
use Rattle.mu_server.specs.Sessions.{Answer, Exchange, Question, Session, answer_of, asked_by, asked_in, first_session, read_of, row_in, row_of, row_that_waits, rows_of, spelled_answer, told_of}
use Rattle.mu_server.specs.declared.connection.Connection.{Connection}
use Rattle.mu_server.specs.declared.connection.Waiting.{Waiting}
use Rattle.mu_server.proofs.Lists.{all-push, all-weaker, ascend-push, flat_map-push}
use Rattle.mu_server.proofs.Lives.{moves-same, session-goes}

-- what isn't ending told no fault
fault-none : (fault : List ℕ) (pending : List Question) (is_ending : Bool) → (fault ≡ []) ⊎ ((pending ≡ []) × (is_ending ≡ true)) → is_ending ≡ false → fault ≡ []
fault-none fault pending is_ending last going = elim last [ inl none ↦ none | inr ended ↦ cc ]

none-pending : (pending : List Question) → [] ≡ map waits_of pending → pending ≡ []
none-pending [] e = refl
none-pending (q ∷ pending) e = cc

-- what was read begins with no request
unread : (input rest : List ℕ) (words : List (List ℕ)) (is_read is_ending : Bool) → (is_read ≡ true → IsReadUp input is_ending) → request_at input ≡ Ok (words, rest) → is_ending ≡ false → is_read ≡ true → ⊥
unread input rest words is_read is_ending up is going read = elim (up read) [ inl short ↦ let e = sym is ∙ short in cc | inr ended ↦ cc ]

-- the same fields hold the same
pub moves-parts : (life : Life) (number : ℕ) (session : Session) (old new : Connection) → new.input ≡ old.input → new.output ≡ old.output → new.waiting.items ≡ old.waiting.items → new.is_ending ≡ old.is_ending
    → (new.is_read ≡ true → IsReadUp new.input new.is_ending) → HoldsSession life number session old → MovesTo (rows_so_far life) life number [] [] session new
moves-parts life number session old new input output waiting ending read_up holds = record {
  next = session;
  moves = moves-same (rows_so_far life) session;
  holds = record {
    came = holds.came ∙ ap (λ l. read_of session ++ l) (sym input);
    gave = ap (λ l. session.gave ++ l) output ∙ holds.gave;
    waiting = waiting ∙ holds.waiting;
    exchanges = holds.exchanges;
    questions = holds.questions;
    ascend = holds.ascend;
    own = holds.own;
    last = subst (λ b. (session.fault ≡ []) ⊎ ((session.pending ≡ []) × (b ≡ true))) (sym ending) holds.last;
    read_up = read_up;
  };
}

-- a request is read and answered without a row
pub moves-answered : (life : Life) (number : ℕ) (session : Session) (old new : Connection) (asked : Asked) (count : ℕ) (alone : List ℕ) (answer : Answer)
    → (sees : SeesRequest life.replicas old.input asked count alone) → old.is_ending ≡ false → old.waiting.items ≡ []
    → new.input ≡ drop count old.input → new.output ≡ old.output ++ spelled_answer answer → new.waiting.items ≡ old.waiting.items → new.is_read ≡ old.is_read
    → row_of answer ≡ [] → IsAnswered life sees.words answer
    → HoldsSession life number session old → MovesTo (rows_so_far life) life number [] [] session new
moves-answered life number session old new asked count alone answer sees going none input output waiting read norow is holds =
    let here : Exchange = record { words = sees.words; answer = answer } in
    let before = session.answered in
    let quiet : session.pending ≡ [] = none-pending session.pending (sym none ∙ holds.waiting) in
    let no_fault : session.fault ≡ [] = fault-none session.fault session.pending old.is_ending holds.last going in
    let left : old.input ≡ request sees.words ++ new.input = sees.spelled ∙ ap (λ l. request sees.words ++ l) (sees.left ∙ sym input) in
    let read_now : flat_map asked_by (before ++ here ∷ []) ++ flat_map asked_in session.pending ≡ flat_map asked_by before ++ request sees.words =
    ap (λ p. flat_map asked_by (before ++ here ∷ []) ++ flat_map asked_in p) quiet ∙ append-nil (flat_map asked_by (before ++ here ∷ [])) ∙ flat_map-push asked_by before here in
    let rows_same : flat_map row_in (before ++ here ∷ []) ++ map row_that_waits session.pending ≡ rows_of session =
    ap (λ l. l ++ map row_that_waits session.pending) (flat_map-push row_in before here ∙ ap (λ l. flat_map row_in before ++ l) norow ∙ append-nil (flat_map row_in before)) in
    record {
      next = record session { answered = before ++ here ∷ [] };
      moves = record {
        since = refl;
        came_is = sym (append-nil session.came);
        gave_is = sym (append-nil session.gave);
        newly = here ∷ [];
        answered = refl;
        new_rows = [];
        rows = rows_same ∙ sym (append-nil (rows_of session));
        later = tt;
      };
      holds = record {
        came =
            holds.came
            ∙ ap (λ p. (flat_map asked_by before ++ flat_map asked_in p) ++ old.input) quiet
            ∙ ap (λ l. l ++ old.input) (append-nil (flat_map asked_by before))
            ∙ ap (λ l. flat_map asked_by before ++ l) left
            ∙ sym (append_assoc (flat_map asked_by before) (request sees.words) new.input)
            ∙ ap (λ l. l ++ new.input) (sym read_now);
        gave =
            ap (λ l. session.gave ++ l) output
            ∙ sym (append_assoc session.gave old.output (spelled_answer answer))
            ∙ ap (λ l. l ++ spelled_answer answer) (holds.gave ∙ ap (λ l. flat_map answer_of before ++ l) no_fault ∙ append-nil (flat_map answer_of before))
            ∙ sym (flat_map-push answer_of before here)
            ∙ sym (append-nil (flat_map answer_of (before ++ here ∷ [])))
            ∙ ap (λ l. flat_map answer_of (before ++ here ∷ []) ++ l) (sym no_fault);
        waiting = waiting ∙ holds.waiting;
        exchanges = all-push (IsExchange life) before here holds.exchanges is;
        questions = holds.questions;
        ascend = subst (λ rows. AscendFrom session.since (rows ++ length life.moment.submitted ∷ [])) (sym rows_same) holds.ascend;
        own = subst (AreOwn life number) (sym rows_same) holds.own;
        last = inl no_fault;
        read_up = λ is_read. absurd (unread old.input sees.rest sees.words old.is_read old.is_ending holds.read_up sees.is going (sym read ∙ is_read));
      };
    }

-- bytes that are no request: the client is told so, and nothing more is read
pub moves-ended : (life : Life) (number : ℕ) (session : Session) (old new : Connection) (text : List ℕ)
    → old.is_ending ≡ false → old.waiting.items ≡ []
    → new.input ≡ old.input → new.output ≡ old.output ++ text → new.waiting.items ≡ old.waiting.items → new.is_ending ≡ true
    → HoldsSession life number session old → MovesTo (rows_so_far life) life number [] [] session new
moves-ended life number session old new text going none input output waiting ended holds =
    let quiet : session.pending ≡ [] = none-pending session.pending (sym none ∙ holds.waiting) in
    let no_fault : session.fault ≡ [] = fault-none session.fault session.pending old.is_ending holds.last going in
    record {
      next = record session { fault = text };
      moves = record {
        since = refl;
        came_is = sym (append-nil session.came);
        gave_is = sym (append-nil session.gave);
        newly = [];
        answered = sym (append-nil session.answered);
        new_rows = [];
        rows = sym (append-nil (rows_of session));
        later = tt;
      };
      holds = record {
        came = holds.came ∙ ap (λ l. read_of session ++ l) (sym input);
        gave =
            ap (λ l. session.gave ++ l) output
            ∙ sym (append_assoc session.gave old.output text)
            ∙ ap (λ l. l ++ text) (holds.gave ∙ ap (λ l. flat_map answer_of session.answered ++ l) no_fault ∙ append-nil (flat_map answer_of session.answered));
        waiting = waiting ∙ holds.waiting;
        exchanges = holds.exchanges;
        questions = holds.questions;
        ascend = holds.ascend;
        own = holds.own;
        last = inr (quiet, ended);
        read_up = λ is_read. inr ended;
      };
    }

-- the time at which a row more is taken, for this connection
abbrev pub with_asker : Life → Request → ℕ → Life
with_asker life command number = record {
  replicas = life.replicas;
  moment = with_row life.moment command;
  askers = life.askers ++ number ∷ [];
}

pub life-taken : (stands : Moment → Type 0) (life : Life) (number : ℕ) (op : Op) (row : ℕ) → (takes : Takes stands life.moment op row) → LifeGoesOn life (with_asker life takes.command number)
life-taken stands life number op row takes = record {
  replicas = refl;
  moment = goes_on-row stands life.moment op row takes;
  new_askers = number ∷ [];
  askers = refl;
}

get_here : {A : Type 0} (xs : List A) (x : A) (i : ℕ) → i ≡ length xs → slice_get (xs ++ x ∷ []) i ≡ Some x
get_here [] x i e = ap (slice_get (x ∷ [])) e
get_here (y ∷ xs) x i e = ap (slice_get (y ∷ (xs ++ x ∷ []))) e ∙ get_here xs x (length xs) refl

-- a request is read, and its command waits for its reply
pub moves-waits : (stands : Moment → Type 0) (life : Life) (number : ℕ) (session : Session) (old new : Connection) (op : Op) (wording : Wording) (count : ℕ) (alone : List ℕ) (waits : Waiting)
    → (sees : SeesRequest life.replicas old.input (Asked.Operation op wording) count alone) → (takes : Takes stands life.moment op waits.row) → waits.wording ≡ wording
    → length life.askers ≡ length life.moment.submitted → old.is_ending ≡ false
    → new.input ≡ drop count old.input → new.output ≡ old.output → new.waiting.items ≡ old.waiting.items ++ waits ∷ [] → new.is_read ≡ old.is_read
    → HoldsSession life number session old → MovesTo (rows_so_far life) (with_asker life takes.command number) number [] [] session new
moves-waits stands life number session old new op wording count alone waits sees takes worded known going input output waiting read was =
    let after = with_asker life takes.command number in
    let holds = session-goes life after number session old (life-taken stands life number op waits.row takes) was in
    let here : Question = record { words = sees.words; waits = waits } in
    let no_fault : session.fault ≡ [] = fault-none session.fault session.pending old.is_ending was.last going in
    let left : old.input ≡ request sees.words ++ new.input = sees.spelled ∙ ap (λ l. request sees.words ++ l) (sees.left ∙ sym input) in
    let all : List ℕ = flat_map asked_by session.answered in
    let rows_more : flat_map row_in session.answered ++ map row_that_waits (session.pending ++ here ∷ []) ≡ rows_of session ++ waits.row ∷ [] =
    ap (λ l. flat_map row_in session.answered ++ l) (map-append row_that_waits session.pending (here ∷ [])) ∙ sym (append_assoc (flat_map row_in session.answered) (map row_that_waits session.pending) (waits.row ∷ [])) in
    let up : AscendFrom session.since ((rows_of session ++ waits.row ∷ []) ++ length after.moment.submitted ∷ []) =
    ascend-push session.since (rows_of session) waits.row (length after.moment.submitted) (omega (arith, takes.next, length-append life.moment.submitted (takes.command ∷ [])))
    (subst (λ n. AscendFrom session.since (rows_of session ++ n ∷ [])) (sym takes.next) was.ascend) in
    let has : HasRow after sees.words waits.row waits.wording = record {
      op = op;
      asked = record { is = sym sees.asked_is ∙ ap (Asked.Operation op) (sym worded) };
      row_is = record { command = takes.command; submitted = get_here life.moment.submitted takes.command waits.row takes.next; op_is = takes.asks };
    } in
    record {
      next = record session { pending = session.pending ++ here ∷ [] };
      moves = record {
        since = refl;
        came_is = sym (append-nil session.came);
        gave_is = sym (append-nil session.gave);
        newly = [];
        answered = sym (append-nil session.answered);
        new_rows = waits.row ∷ [];
        rows = rows_more;
        later = (omega (arith, takes.next), tt);
      };
      holds = record {
        came =
            was.came
            ∙ ap (λ l. (all ++ flat_map asked_in session.pending) ++ l) left
            ∙ sym (append_assoc (all ++ flat_map asked_in session.pending) (request sees.words) new.input)
            ∙ ap (λ l. l ++ new.input) (append_assoc all (flat_map asked_in session.pending) (request sees.words) ∙ ap (λ l. all ++ l) (sym (flat_map-push asked_in session.pending here)));
        gave = ap (λ l. session.gave ++ l) output ∙ was.gave;
        waiting = waiting ∙ ap (λ l. l ++ waits ∷ []) was.waiting ∙ sym (map-append waits_of session.pending (here ∷ []));
        exchanges = holds.exchanges;
        questions = all-push (IsQuestion after) session.pending here holds.questions has;
        ascend = subst (λ rows. AscendFrom session.since (rows ++ length after.moment.submitted ∷ [])) (sym rows_more) up;
        own = subst (AreOwn after number) (sym rows_more) (all-push (λ row. slice_get after.askers row ≡ Some number) (rows_of session) waits.row holds.own (get_here life.askers number waits.row (takes.next ∙ sym known)));
        last = inl no_fault;
        read_up = λ is_read. absurd (unread old.input sees.rest sees.words old.is_read old.is_ending was.read_up sees.is going (sym read ∙ is_read));
      };
    }

-- the first that waits is told
pub moves-told : (life : Life) (number : ℕ) (session : Session) (old new : Connection) (first : Waiting) (rest : List Waiting) (answer : Answer)
    → old.waiting.items ≡ first ∷ rest → new.waiting.items ≡ rest
    → new.input ≡ old.input → new.output ≡ old.output ++ spelled_answer answer → new.is_ending ≡ old.is_ending → new.is_read ≡ old.is_read
    → row_of answer ≡ first.row ∷ [] → ((words : List (List ℕ)) → HasRow life words first.row first.wording → IsAnswered life words answer)
    → HoldsSession life number session old → MovesTo (rows_so_far life) life number [] [] session new
moves-told life number session old new first rest answer some waiting input output ending read rowed is holds = go session.pending refl
  where
    go : (pending : List Question) → session.pending ≡ pending → MovesTo (rows_so_far life) life number [] [] session new
    go [] quiet = let e = sym some ∙ holds.waiting ∙ ap (map waits_of) quiet in cc
    go (q ∷ pending) pend =
        let e : first ∷ rest ≡ q.waits ∷ map waits_of pending = sym some ∙ holds.waiting ∙ ap (map waits_of) pend in
        let e_first : first ≡ q.waits = cc in
        let e_rest : rest ≡ map waits_of pending = cc in
        let here : Exchange = record { words = q.words; answer = answer } in
        let before = session.answered in
        let no_fault : session.fault ≡ [] = elim holds.last [ inl none ↦ none | inr ended ↦ let bad : q ∷ pending ≡ [] = sym pend ∙ ended.0 in cc ] in
        let open_all : AllByRecursion (IsQuestion life) (q ∷ pending) = subst (AllByRecursion (IsQuestion life)) pend holds.questions in
        let has : HasRow life q.words first.row first.wording = subst (λ w. HasRow life q.words w.row w.wording) (sym e_first) open_all.0 in
        let read_same : flat_map asked_by (before ++ here ∷ []) ++ flat_map asked_in pending ≡ read_of session =
        ap (λ l. l ++ flat_map asked_in pending) (flat_map-push asked_by before here) ∙ append_assoc (flat_map asked_by before) (request q.words) (flat_map asked_in pending) ∙ ap (λ p. flat_map asked_by before ++ flat_map asked_in p) (sym pend) in
        let rows_same : flat_map row_in (before ++ here ∷ []) ++ map row_that_waits pending ≡ rows_of session =
        ap (λ l. l ++ map row_that_waits pending) (flat_map-push row_in before here) ∙ append_assoc (flat_map row_in before) (row_of answer) (map row_that_waits pending)
        ∙ ap (λ l. flat_map row_in before ++ (l ++ map row_that_waits pending)) (rowed ∙ ap (λ w. w.row ∷ []) e_first) ∙ ap (λ p. flat_map row_in before ++ map row_that_waits p) (sym pend) in
        record {
          next = record session { answered = before ++ here ∷ []; pending = pending };
          moves = record {
            since = refl;
            came_is = sym (append-nil session.came);
            gave_is = sym (append-nil session.gave);
            newly = here ∷ [];
            answered = refl;
            new_rows = [];
            rows = rows_same ∙ sym (append-nil (rows_of session));
            later = tt;
          };
          holds = record {
            came = holds.came ∙ ap (λ l. read_of session ++ l) (sym input) ∙ ap (λ l. l ++ new.input) (sym read_same);
            gave =
                ap (λ l. session.gave ++ l) output
                ∙ sym (append_assoc session.gave old.output (spelled_answer answer))
                ∙ ap (λ l. l ++ spelled_answer answer) (holds.gave ∙ ap (λ l. flat_map answer_of before ++ l) no_fault ∙ append-nil (flat_map answer_of before))
                ∙ sym (flat_map-push answer_of before here)
                ∙ sym (append-nil (flat_map answer_of (before ++ here ∷ [])))
                ∙ ap (λ l. flat_map answer_of (before ++ here ∷ []) ++ l) (sym no_fault);
            waiting = waiting ∙ e_rest;
            exchanges = all-push (IsExchange life) before here holds.exchanges (is q.words has);
            questions = open_all.1;
            ascend = subst (λ rows. AscendFrom session.since (rows ++ length life.moment.submitted ∷ [])) (sym rows_same) holds.ascend;
            own = subst (AreOwn life number) (sym rows_same) holds.own;
            last = inl no_fault;
            read_up = λ is_read. subst (λ b. IsReadUp new.input b) (sym ending) (subst (λ i. IsReadUp i old.is_ending) (sym input) (holds.read_up (sym read ∙ is_read)));
          };
        }

-- bytes come
pub moves-came : (life : Life) (number : ℕ) (session : Session) (old new : Connection) (bytes : List ℕ)
    → new.input ≡ old.input ++ bytes → new.output ≡ old.output → new.waiting.items ≡ old.waiting.items → new.is_ending ≡ old.is_ending → new.is_read ≡ false
    → HoldsSession life number session old → MovesTo (rows_so_far life) life number bytes [] session new
moves-came life number session old new bytes input output waiting ending read holds = record {
  next = record session { came = session.came ++ bytes };
  moves = record {
    since = refl;
    came_is = refl;
    gave_is = sym (append-nil session.gave);
    newly = [];
    answered = sym (append-nil session.answered);
    new_rows = [];
    rows = sym (append-nil (rows_of session));
    later = tt;
  };
  holds = record {
    came = ap (λ l. l ++ bytes) holds.came ∙ append_assoc (read_of session) old.input bytes ∙ ap (λ l. read_of session ++ l) (sym input);
    gave = ap (λ l. session.gave ++ l) output ∙ holds.gave;
    waiting = waiting ∙ holds.waiting;
    exchanges = holds.exchanges;
    questions = holds.questions;
    ascend = holds.ascend;
    own = holds.own;
    last = subst (λ b. (session.fault ≡ []) ⊎ ((session.pending ≡ []) × (b ≡ true))) (sym ending) holds.last;
    read_up = λ is_read. absurd (no (sym read ∙ is_read));
  };
}
  where
    no : false ≡ true → ⊥
    no e = cc

-- bytes are given
pub moves-gave : (life : Life) (number : ℕ) (session : Session) (old new : Connection) (bytes : List ℕ)
    → old.output ≡ bytes ++ new.output → new.input ≡ old.input → new.waiting.items ≡ old.waiting.items → new.is_ending ≡ old.is_ending → new.is_read ≡ old.is_read
    → HoldsSession life number session old → MovesTo (rows_so_far life) life number [] bytes session new
moves-gave life number session old new bytes output input waiting ending read holds = record {
  next = record session { gave = session.gave ++ bytes };
  moves = record {
    since = refl;
    came_is = sym (append-nil session.came);
    gave_is = refl;
    newly = [];
    answered = sym (append-nil session.answered);
    new_rows = [];
    rows = sym (append-nil (rows_of session));
    later = tt;
  };
  holds = record {
    came = holds.came ∙ ap (λ l. read_of session ++ l) (sym input);
    gave = append_assoc session.gave bytes new.output ∙ ap (λ l. session.gave ++ l) (sym output) ∙ holds.gave;
    waiting = waiting ∙ holds.waiting;
    exchanges = holds.exchanges;
    questions = holds.questions;
    ascend = holds.ascend;
    own = holds.own;
    last = subst (λ b. (session.fault ≡ []) ⊎ ((session.pending ≡ []) × (b ≡ true))) (sym ending) holds.last;
    read_up = λ is_read. subst (λ b. IsReadUp new.input b) (sym ending) (subst (λ i. IsReadUp i old.is_ending) (sym input) (holds.read_up (sym read ∙ is_read)));
  };
}

-- a connection of which nothing came holds a session that begins
pub holds-first : (life : Life) (number : ℕ) (new : Connection) → new.input ≡ [] → new.output ≡ [] → new.waiting.items ≡ [] → (new.is_read ≡ true → IsReadUp new.input new.is_ending)
    → HoldsSession life number (first_session (length life.moment.submitted)) new
holds-first life number new input output waiting read_up = record {
  came = sym input;
  gave = output;
  waiting = waiting;
  exchanges = tt;
  questions = tt;
  ascend = (omega arith, tt);
  own = tt;
  last = inl refl;
  read_up = read_up;
}

-- no byte is less than a request
pub short-empty : request_at [] ≡ Err stop.Short
unfolding request_at
short-empty = refl

-- a connection that is read up, of which nothing waits and nothing is to be sent, rests
pub rests-of : (life : Life) (number : ℕ) (session : Session) (c : Connection) → c.is_read ≡ true → c.waiting.items ≡ [] → c.output ≡ [] → HoldsSession life number session c → Rests session c
rests-of life number session c read none output holds = record {
  gave = sym (append-nil session.gave) ∙ ap (λ l. session.gave ++ l) (sym output) ∙ holds.gave;
  none_waits = none-pending session.pending (sym none ∙ holds.waiting);
  read_up = holds.read_up read;
}
