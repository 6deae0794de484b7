-- reading: what bytes begin with: a whole request and the bytes behind it; less than a whole one; or
-- no request, and why.
use Rattle.std.specs.Prelude.{ℕ, zero, suc, ◌≡◌, ◌==◌, if◌then◌else◌, nat_le, nat_lt, List, [], ◌∷◌, ◌++◌, length, take, drop, Ok, Err, None, Some}
use Rattle.std.specs.List.{position}
use Rattle.std.specs.declared.option.Option.{Option}
use Rattle.std.specs.declared.result.Result.{Result}
use Rattle.mu_text.specs.Numbers.{number_of, within}
use Rattle.mu_text.specs.declared.TheConstants.{MOST_DIGITS}
use Rattle.mu_resp.specs.declared.TheConstants.{CARRIAGE_RETURN, LINE_FEED, STAR, DOLLAR, MOST_WORDS, MOST_WORD_BYTES}
use Rattle.mu_resp.specs.declared.stop.Fault.{Fault}
use Rattle.mu_resp.specs.declared.stop.Fault.TheVariants as fault
use Rattle.mu_resp.specs.declared.stop.Stop.{Stop}
use Rattle.mu_resp.specs.declared.stop.Stop.TheVariants as stop

-- what is read, and the bytes behind it; or why nothing is
abbrev pub Reading : Type 0 → Type 0
Reading A = Result (A × List ℕ) Stop

-- goes on with what was read
infixl 10 ◌>>=◌
abbrev pub ◌>>=◌ : {A B : Type 0} → Result A Stop → (A → Result B Stop) → Result B Stop
(Ok x) >>= f = f x
(Err e) >>= f = Err e

-- what a function returned, seen by view, is this reading
abbrev pub Shows : {X Y : Type 0} → (X → Y) → Result X Stop → Result Y Stop → Type 0
Shows view (Ok x) reading = reading ≡ Ok (view x)
Shows view (Err stop) reading = reading ≡ Err stop

-- behind the end of a line, whose first byte was there
abbrev pub feed_at : List ℕ → Result (List ℕ) Stop
feed_at [] = Err stop.Short
feed_at (byte ∷ bytes) = if byte == LINE_FEED then Ok bytes else Err (stop.Wrong fault.LineEnd)

-- behind the end of a line
abbrev pub end_at : List ℕ → Result (List ℕ) Stop
end_at [] = Err stop.Short
end_at (byte ∷ bytes) =
    if byte == CARRIAGE_RETURN then feed_at bytes else Err (stop.Wrong fault.LineEnd)

-- the number, and what stands behind its line
abbrev pub numbered : Option ℕ → Fault → List ℕ → Reading ℕ
numbered None wrong bytes = Err (stop.Wrong wrong)
numbered (Some number) wrong bytes = feed_at bytes >>= λ rest. Ok (number, rest)

-- the number of a line whose end begins at this place
abbrev pub number_before : Option ℕ → ℕ → Fault → List ℕ → Reading ℕ
number_before None most wrong bytes =
    if nat_le (length bytes) MOST_DIGITS then Err stop.Short else Err (stop.Wrong wrong)
number_before (Some end) most wrong bytes =
    numbered (within 0 most (number_of (take end bytes))) wrong (drop (suc end) bytes)

-- a line of a number up to the most
unfoldable pub number_at : ℕ → Fault → List ℕ → Reading ℕ
number_at most wrong bytes =
    number_before (position (λ byte. byte == CARRIAGE_RETURN) bytes) most wrong bytes

-- the first bytes, and what stands behind the end of their line
abbrev pub text_at : ℕ → List ℕ → Reading (List ℕ)
text_at count bytes =
    if nat_lt (length bytes) count then Err stop.Short
    else (end_at (drop count bytes) >>= λ rest. Ok (take count bytes, rest))

-- a word
unfoldable pub bulk_at : List ℕ → Reading (List ℕ)
bulk_at [] = Err stop.Short
bulk_at (sign ∷ bytes) =
    if sign == DOLLAR
    then (number_at MOST_WORD_BYTES fault.WordLength bytes >>= λ header. text_at header.0 header.1)
    else Err (stop.Wrong (fault.NoWord sign))

-- words in front of those that are read
abbrev pub onto : List (List ℕ) → Reading (List (List ℕ)) → Reading (List (List ℕ))
onto words reading = reading >>= λ read. Ok (words ++ read.0, read.1)

-- this many words
abbrev pub bulks_at : ℕ → List ℕ → Reading (List (List ℕ))
bulks_at zero bytes = Ok ([], bytes)
bulks_at (suc count) bytes = bulk_at bytes >>= λ word. onto (word.0 ∷ []) (bulks_at count word.1)

-- a request
unfoldable pub request_at : List ℕ → Reading (List (List ℕ))
request_at [] = Err stop.Short
request_at (sign ∷ bytes) =
    if sign == STAR
    then (number_at MOST_WORDS fault.WordCount bytes >>= λ header. bulks_at header.0 header.1)
    else Err (stop.Wrong (fault.NoRequest sign))
