-- wording: how a client of Redis is told the store's reply.
use Rattle.std.specs.Prelude.{ℕ, List, length, codes}
use Rattle.kv_store.specs.declared.store.Reply.{Reply}
use Rattle.mu_resp.specs.Answers.{integer, nil, simple}
use Rattle.mu_resp.specs.Requests.{bulk}
use Rattle.mu_strings.specs.Spellings.{string_of}
use Rattle.mu_redis.specs.declared.wording.Wording.{Wording}

-- the value, if there is one
abbrev pub value_told : Reply → List ℕ
value_told Reply.Done = simple (codes "OK")
value_told (Reply.Value text) = bulk (string_of text)
value_told Reply.None = nil
value_told (Reply.Kept text) = bulk (string_of text)

-- how many keys there were
abbrev pub count_told : Reply → List ℕ
count_told Reply.None = integer 0
count_told _ = integer 1

-- how many bytes the value has
abbrev pub length_told : Reply → List ℕ
length_told (Reply.Value text) = integer (length (string_of text))
length_told (Reply.Kept text) = integer (length (string_of text))
length_told _ = integer 0

-- the reply, in these words
abbrev pub told : Wording → Reply → List ℕ
told Wording.Fine reply = value_told reply
told Wording.Value reply = value_told reply
told Wording.Count reply = count_told reply
told Wording.Length reply = length_told reply
