-- What was read of a line so far, byte by byte, up to its end or to that of the source.
use Rattle.std.proofs.Common.{◌≡◌, ◌≢◌, ℕ, zero, suc, ◌+◌, ◌<◌, ◌≤◌, ◌==◌, Bool, true, false, List, [], ◌∷◌, ◌++◌, length, take, IfSome, MatchOption, None, Some, refl, sym, ap, subst, ◌∙◌, append_assoc, append-nil, arith, length-append}
use Rattle.std.proofs.lemmas.Bool.{true≢false}
use Rattle.std.proofs.lemmas.Bool.Decides.{Decides-eqb}
use Rattle.std.proofs.lemmas.List.{length-take, nil_from_length}
use Rattle.std.proofs.lemmas.List.Elements.{All-nil, All-push}
use Rattle.std.proofs.KnownBytes.{Consumes-nil, Consumes-trans}
use Rattle.std.specs.declared.option.Option.{Option}
use Rattle.std.specs.Io.KnownBytes.{Consumes, IsAtEnd}
use Rattle.std.specs.List.{All}
use Rattle.mu_io.specs.declared.whole.ReadEnd.{ReadEnd}
use Rattle.mu_text.specs.Lines.{lines}
use Rattle.mu_text.specs.declared.TheConstants.{LINE_FEED}
use Rattle.mu_text.specs.declared.line_text.TheConstants.{LINE_BYTES}
use Rattle.mu_text.proofs.Cutting.{lines-at, lines-none}
use Rattle.mu_serve.specs.Incoming.{FindsNone, GaveAll, IsStop, MayFollow, ReadsOn, StopsReading, TakesByte, TakesLine}
use Rattle.mu_serve.specs.declared.incoming.Incoming.{Incoming}

front_of_more : (n : ℕ) (line : List ℕ) (byte : ℕ)
    → take n (take n line ++ byte ∷ []) ≡ take n (line ++ byte ∷ [])
front_of_more zero line byte = refl
front_of_more (suc n) [] byte = refl
front_of_more (suc n) (x ∷ line) byte = ap (λ l. x ∷ l) (front_of_more n line byte)

-- the front of a line with one byte more
front_more : (line front : List ℕ) (byte : ℕ) → front ≡ take LINE_BYTES line
    → take LINE_BYTES (front ++ byte ∷ []) ≡ take LINE_BYTES (line ++ byte ∷ [])
front_more line front byte is =
    ap (λ l. take LINE_BYTES (l ++ byte ∷ [])) is ∙ front_of_more LINE_BYTES line byte

-- an empty front is that of an empty line
front_none : (line front : List ℕ) → front ≡ take LINE_BYTES line → front ≡ [] → line ≡ []
front_none line front is none =
    let size = ap length is in let nothing = ap length none in
    nil_from_length line (omega (arith, size, nothing, length-take LINE_BYTES line))

-- bytes that were read one after the other
reads_trans : (left mid now : Option (List ℕ)) (before between after : Incoming) (xs ys : List ℕ)
    → ReadsOn left mid before between xs → ReadsOn mid now between after ys
    → ReadsOn left now before after (xs ++ ys)
reads_trans left mid now before between after xs ys first second = record {
  consumed = Consumes-trans left mid now xs ys first.consumed second.consumed;
  room = omega (arith, length-append xs ys, first.room, second.room);
  some = second.some;
}

-- what a source gave after other bytes
pub gave_after : (left mid : Option (List ℕ)) (xs ys : List ℕ) → Consumes left mid xs
    → GaveAll mid ys → GaveAll left (xs ++ ys)
gave_after None mid xs ys consumed gave = tt
gave_after (Some all) None xs ys consumed gave = absurd consumed
gave_after (Some all) (Some rest) xs ys consumed gave =
    ap (λ l. xs ++ l) gave ∙ sym consumed

-- at its end it gives nothing more
pub gave_none : (left : Option (List ℕ)) → IsAtEnd left → GaveAll left []
gave_none None end = tt
gave_none (Some all) end = sym end

-- who gave all, and that was nothing, was at its end
none_given : (left : Option (List ℕ)) (taken : List ℕ) → GaveAll left taken → taken ≡ []
    → IsAtEnd left
none_given None taken gave none = tt
none_given (Some all) taken gave none = sym gave ∙ none

-- since a line was begun: its bytes so far, and the bytes that were read
pub record LineSoFar (left now : Option (List ℕ)) (before after : Incoming)
    (front : List ℕ) : Type 0 where
  pub going : before.is_over ≡ false
  pub line : List ℕ
  pub is : front ≡ take LINE_BYTES line
  pub inner : All (λ byte. (byte == LINE_FEED) ≡ false) line
  pub taken : List ℕ
  pub reads : ReadsOn left now before after taken
  pub parts : before.held ++ taken ≡ line ++ after.held

pub so_far_none : (left : Option (List ℕ)) (before : Incoming) (front : List ℕ) → 0 < before.room
    → before.is_over ≡ false → front ≡ [] → LineSoFar left left before before front
so_far_none left before front some going none = record {
  going = going;
  line = [];
  is = none;
  inner = All-nil _;
  taken = [];
  reads = record { consumed = Consumes-nil left; room = omega arith; some = some };
  parts = append-nil before.held;
}

-- another byte than a line feed
other : (byte : ℕ) → byte ≢ LINE_FEED → (byte == LINE_FEED) ≡ false
other byte not = go (byte == LINE_FEED) refl
  where
    go : (b : Bool) → (byte == LINE_FEED) ≡ b → (byte == LINE_FEED) ≡ false
    go true is = absurd (not ((Decides-eqb byte LINE_FEED).0 is))
    go false is = is

-- the parts with those of what came next
parts_more : (held taken line rest more : List ℕ) → held ++ taken ≡ line ++ rest
    → held ++ (taken ++ more) ≡ line ++ (rest ++ more)
parts_more held taken line rest more is =
    sym (append_assoc held taken more) ∙ ap (λ l. l ++ more) is ∙ append_assoc line rest more

parts_byte : (held taken line rest more after : List ℕ) (byte : ℕ) → held ++ taken ≡ line ++ rest
    → rest ++ more ≡ byte ∷ after → held ++ (taken ++ more) ≡ (line ++ byte ∷ []) ++ after
parts_byte held taken line rest more after byte is next =
    parts_more held taken line rest more is ∙ ap (λ l. line ++ l) next
    ∙ sym (append_assoc line (byte ∷ []) after)

pub so_far_more : (left mid now : Option (List ℕ)) (before between after : Incoming)
    (front longer : List ℕ) (byte : ℕ) → LineSoFar left mid before between front
    → TakesByte mid now between after (Some byte) → byte ≢ LINE_FEED
    → longer ≡ take LINE_BYTES (front ++ byte ∷ []) → LineSoFar left now before after longer
so_far_more left mid now before between after front longer byte so next inner is = record {
  going = so.going;
  line = so.line ++ byte ∷ [];
  is = is ∙ front_more so.line front byte so.is;
  inner = All-push (λ byte. (byte == LINE_FEED) ≡ false) so.line byte so.inner (other byte inner);
  taken = so.taken ++ next.taken;
  reads = reads_trans left mid now before between after so.taken next.taken so.reads next.reads;
  parts = parts_byte before.held so.taken so.line between.held next.taken after.held byte so.parts next.byte;
}

-- the bytes up to a line feed are a line, whatever comes
cut_at : (held taken line rest more : List ℕ) (byte : ℕ)
    → All (λ byte. (byte == LINE_FEED) ≡ false) line → byte ≡ LINE_FEED
    → held ++ taken ≡ (line ++ byte ∷ []) ++ rest
    → lines (held ++ (taken ++ more)) ≡ line ∷ lines (rest ++ more)
cut_at held taken line rest more byte inner is parts =
    ap lines (parts_more held taken (line ++ byte ∷ []) rest more parts
    ∙ append_assoc line (byte ∷ []) (rest ++ more))
    ∙ ap (λ b. lines (line ++ b ∷ (rest ++ more))) is ∙ lines-at line (rest ++ more) inner

-- a line with its end leaves fewer bytes
fewer_at : (room rest : ℕ) (held taken line after : List ℕ) (byte : ℕ)
    → rest + length taken ≡ room → held ++ taken ≡ (line ++ byte ∷ []) ++ after
    → rest + length after < room + length held
fewer_at room rest held taken line after byte counted parts =
    let size = ap length parts in
    omega (
      arith,
      size,
      counted,
      length-append held taken,
      length-append (line ++ byte ∷ []) after,
      length-append line (byte ∷ []),
    )

pub so_far_line : (left mid now : Option (List ℕ)) (before between after : Incoming)
    (front : List ℕ) (byte : ℕ) → LineSoFar left mid before between front
    → TakesByte mid now between after (Some byte) → byte ≡ LINE_FEED → after.is_over ≡ false
    → TakesLine left now before after front
so_far_line left mid now before between after front byte so next is goes_on = record {
  going = so.going;
  line = so.line;
  front = so.is;
  taken = so.taken ++ next.taken;
  reads = reads_trans left mid now before between after so.taken next.taken so.reads next.reads;
  cut = λ more _. cut_at before.held (so.taken ++ next.taken) so.line after.held more byte so.inner is
      (parts_byte before.held so.taken so.line between.held next.taken after.held byte so.parts next.byte);
  last = λ over. absurd (true≢false (sym over ∙ goes_on));
  fewer = fewer_at before.room after.room before.held (so.taken ++ next.taken) so.line after.held byte
      (reads_trans left mid now before between after so.taken next.taken so.reads next.reads).room
      (parts_byte before.held so.taken so.line between.held next.taken after.held byte so.parts next.byte);
}

lines_some : (line : List ℕ) → All (λ byte. (byte == LINE_FEED) ≡ false) line → 0 < length line
    → lines line ≡ line ∷ []
lines_some [] inner some = absurd (omega (arith, some))
lines_some (byte ∷ line) inner some = lines-none byte line inner

-- at the end the bytes so far are the last line
cut_last : (held taken line after more : List ℕ)
    → All (λ byte. (byte == LINE_FEED) ≡ false) line → 0 < length line
    → held ++ taken ≡ line → after ≡ [] → more ≡ []
    → lines (held ++ (taken ++ more)) ≡ line ∷ lines (after ++ more)
cut_last held taken line after more inner some parts none last =
    ap (λ m. lines (held ++ (taken ++ m))) last ∙ ap (λ l. lines (held ++ l)) (append-nil taken)
    ∙ ap lines parts ∙ lines_some line inner some
    ∙ ap (λ l. line ∷ lines l) (sym (ap (λ a. a ++ more) none ∙ last))

-- nothing came after the bytes so far
parts_end : (held taken line rest more : List ℕ) → held ++ taken ≡ line ++ rest
    → rest ++ more ≡ [] → held ++ (taken ++ more) ≡ line
parts_end held taken line rest more is none =
    parts_more held taken line rest more is ∙ ap (λ l. line ++ l) none ∙ append-nil line

front_some : (line front : List ℕ) → front ≡ take LINE_BYTES line → 0 < length front
    → 0 < length line
front_some line front is some =
    let size = ap length is in omega (arith, size, some, length-take LINE_BYTES line)

-- of no bytes there are none in front and none after
nothing_in : (held taken : List ℕ) → held ++ taken ≡ [] → (held ≡ []) × (taken ≡ [])
nothing_in held taken is =
    let size = ap length is in (
      nil_from_length held (omega (arith, size, length-append held taken)),
      nil_from_length taken (omega (arith, size, length-append held taken)),
    )

pub so_far_last : (left mid now : Option (List ℕ)) (before between after over : Incoming)
    (front : List ℕ) → LineSoFar left mid before between front
    → TakesByte mid now between after None → 0 < length front → over.is_over ≡ true
    → over.held ≡ after.held → over.room ≡ after.room → TakesLine left now before over front
so_far_last left mid now before between after over front so next some last held room =
    let reads =
    reads_trans left mid now before between after so.taken next.taken so.reads next.reads in
    let none : over.held ≡ [] = held ∙ next.byte.1 in
    record {
      going = so.going;
      line = so.line;
      front = so.is;
      taken = so.taken ++ next.taken;
      reads = record {
        consumed = reads.consumed;
        room = omega (arith, reads.room, room);
        some = omega (arith, reads.some, room);
      };
      cut = λ more follows. cut_last before.held (so.taken ++ next.taken) so.line over.held more
          so.inner (front_some so.line front so.is some)
          (parts_end before.held so.taken so.line between.held next.taken so.parts next.byte.0)
          none (subst (λ b. MayFollow b more) last follows);
      last = λ _. (
        none,
        gave_after left mid so.taken next.taken so.reads.consumed
            (subst (GaveAll mid) (sym (nothing_in between.held next.taken next.byte.0).1)
            (gave_none mid next.byte.2)),
      );
      fewer = (let all = ap length
          (parts_end before.held so.taken so.line between.held next.taken so.parts next.byte.0)
          in let nothing = ap length none in
          let most = front_some so.line front so.is some in omega (
            arith,
            all,
            nothing,
            most,
            room,
            reads.room,
            length-append before.held (so.taken ++ next.taken),
          ));
    }

pub so_far_nothing : (left mid now : Option (List ℕ)) (before between after : Incoming)
    (front : List ℕ) → LineSoFar left mid before between front
    → TakesByte mid now between after None → front ≡ [] → FindsNone left now before
so_far_nothing left mid now before between after front so next none =
    let reads =
    reads_trans left mid now before between after so.taken next.taken so.reads next.reads in
    let all = parts_end before.held so.taken so.line between.held next.taken so.parts next.byte.0
    ∙ front_none so.line front so.is none in
    let both = nothing_in before.held (so.taken ++ next.taken) all in
    let gave =
    gave_after left mid so.taken next.taken so.reads.consumed
    (subst (GaveAll mid) (sym (nothing_in between.held next.taken next.byte.0).1)
    (gave_none mid next.byte.2)) in
    record {
      none = both.0;
      same = subst (Consumes left now) both.1 reads.consumed;
      at_end = none_given left (so.taken ++ next.taken) gave both.1;
    }

stop_more : (end : ReadEnd) (room rest a b faults faults_now : ℕ) → rest + a ≡ room
    → IsStop end rest b faults faults_now → IsStop end room (a + b) faults faults_now
stop_more ReadEnd.Fault room rest a b faults faults_now is stop =
    (omega (arith, is, stop.0), stop.1)
stop_more ReadEnd.TooLong room rest a b faults faults_now is stop =
    (omega (arith, is, stop.0), stop.1)
stop_more ReadEnd.NoMemory room rest a b faults faults_now is stop = absurd stop

pub so_far_stops : (left mid now : Option (List ℕ)) (before between : Incoming) (front : List ℕ)
    (faults faults_mid faults_now : ℕ) (end : ReadEnd) → LineSoFar left mid before between front
    → StopsReading mid now faults_mid faults_now between end → faults_mid ≡ faults
    → StopsReading left now faults faults_now before end
so_far_stops left mid now before between front faults faults_mid faults_now end so stops same =
    record {
      going = so.going;
      taken = so.taken ++ stops.taken;
      consumed =
          Consumes-trans left mid now so.taken stops.taken so.reads.consumed stops.consumed;
      why = subst (λ f. IsStop end before.room (length (so.taken ++ stops.taken)) f faults_now) same
          (subst (λ n. IsStop end before.room n faults_mid faults_now)
          (sym (length-append so.taken stops.taken))
          (stop_more end before.room between.room (length so.taken) (length stops.taken) faults_mid
          faults_now so.reads.room stops.why));
    }

-- the last line, if there is one
pub so_far_found : (left mid now : Option (List ℕ)) (before between after over : Incoming)
    (front : List ℕ) (found : Option (List ℕ)) → LineSoFar left mid before between front
    → TakesByte mid now between after None
    → IfSome found (λ last. (last ≡ front) × (0 < length front))
    → IfSome found (λ _. over.is_over ≡ true) → over.held ≡ after.held → over.room ≡ after.room
    → IfSome found (TakesLine left now before over)
so_far_found left mid now before between after over front None so next some last held room = tt
so_far_found left mid now before between after over front (Some found) so next some last held room =
    subst (TakesLine left now before over) (sym some.0)
    (so_far_last left mid now before between after over front so next some.1 last held room)

-- a byte leaves fewer
pub byte_fewer : (left now : Option (List ℕ)) (before after : Incoming) (byte : ℕ)
    → TakesByte left now before after (Some byte)
    → after.room + length after.held < before.room + length before.held
byte_fewer left now before after byte next =
    let size = ap length next.byte in
    omega (arith, size, next.reads.room, length-append before.held next.taken)

-- a front has room in a line
pub front_fits : (line front : List ℕ) → front ≡ take LINE_BYTES line → length front ≤ LINE_BYTES
front_fits line front is =
    let size = ap length is in omega (arith, size, length-take LINE_BYTES line)

-- the first byte of those that came, or the end
pub first_byte : (left now : Option (List ℕ)) (held taken after : List ℕ) (count : ℕ)
    (found : Option ℕ) → held ≡ [] → count ≡ length taken → (count ≡ 0 → IsAtEnd left)
    → MatchOption found ((taken ≡ []) × (after ≡ [])) (λ byte. taken ≡ byte ∷ after)
    → MatchOption found ((held ++ taken ≡ []) × (after ≡ []) × IsAtEnd left)
    (λ byte. held ++ taken ≡ byte ∷ after)
first_byte left now held taken after count None none counted end first =
    let size = ap length first.0 in (
      ap (λ h. h ++ taken) none ∙ first.0,
      first.1,
      end (omega (arith, counted, size)),
    )
first_byte left now held taken after count (Some byte) none counted end first =
    ap (λ h. h ++ taken) none ∙ first
