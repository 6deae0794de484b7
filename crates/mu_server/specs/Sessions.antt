-- exchange, question, session: what a client asked, what it was told, and what it still waits for.
use Rattle.std.specs.Prelude.{ℕ, ◌≡◌, List, [], ◌∷◌, ◌++◌, flat_map, map}
use Rattle.kv_store.specs.declared.store.Reply.{Reply}
use Rattle.mu_resp.specs.Answers.{refusal}
use Rattle.mu_resp.specs.Requests.{request}
use Rattle.mu_redis.specs.Refusals.{many_keys, no_reply, no_room}
use Rattle.mu_redis.specs.Wordings.{told}
use Rattle.mu_redis.specs.declared.wording.Wording.{Wording}
use Rattle.mu_server.specs.declared.connection.Waiting.{Waiting}

-- an answer: the reply to a row in some words; that there is no reply in time; that the store has as
-- many keys as may be; that it had no room in time; or bytes that tell nothing of the store
pub data Answer : Type 0 where
  Replied : ℕ → Wording → Reply → Answer
  Late : ℕ → Answer
  ManyKeys : Answer
  NoRoom : Answer
  Alone : List ℕ → Answer

-- a request and its answer
pub record Exchange : Type 0 where
  pub words : List (List ℕ)
  pub answer : Answer

-- a request whose command was submitted, and has no answer yet
pub record Question : Type 0 where
  pub words : List (List ℕ)
  pub waits : Waiting

-- what a client has sent and got: from which row on its commands have theirs, the bytes that came and
-- those that were given to it, its requests with their answers, those without one, and the words by
-- which it was told that it sent no request, if so
pub record Session : Type 0 where
  pub since : ℕ
  pub came : List ℕ
  pub gave : List ℕ
  pub answered : List Exchange
  pub pending : List Question
  pub fault : List ℕ

-- a client that has sent nothing
abbrev pub first_session : ℕ → Session
first_session since = record {
  since = since;
  came = [];
  gave = [];
  answered = [];
  pending = [];
  fault = [];
}

-- an answer as it is spelled
abbrev pub spelled_answer : Answer → List ℕ
spelled_answer (Replied row wording reply) = told wording reply
spelled_answer (Late row) = refusal no_reply
spelled_answer ManyKeys = refusal many_keys
spelled_answer NoRoom = refusal no_room
spelled_answer (Alone text) = text

abbrev pub answer_of : Exchange → List ℕ
answer_of exchange = spelled_answer exchange.answer

-- a request as it is spelled
abbrev pub asked_by : Exchange → List ℕ
asked_by exchange = request exchange.words

abbrev pub asked_in : Question → List ℕ
asked_in question = request question.words

-- the bytes of all requests that were read
abbrev pub read_of : Session → List ℕ
read_of session = flat_map asked_by session.answered ++ flat_map asked_in session.pending

-- the bytes of all answers
abbrev pub told_of : Session → List ℕ
told_of session = flat_map answer_of session.answered ++ session.fault

-- the row of an answer, if its command was submitted
abbrev pub row_of : Answer → List ℕ
row_of (Replied row wording reply) = row ∷ []
row_of (Late row) = row ∷ []
row_of ManyKeys = []
row_of NoRoom = []
row_of (Alone text) = []

abbrev pub row_in : Exchange → List ℕ
row_in exchange = row_of exchange.answer

abbrev pub row_that_waits : Question → ℕ
row_that_waits question = question.waits.row

-- the rows of a client's commands, in the order of its requests
abbrev pub rows_of : Session → List ℕ
rows_of session = flat_map row_in session.answered ++ map row_that_waits session.pending
