-- What is written of the lines that a printer holds, and what it answers at its end.
use Rattle.std.proofs.Common.{◌≡◌, ℕ, ◌+◌, ◌*◌, ◌<◌, ◌≤◌, ◌^◌, Bool, true, false, List, [], ◌++◌, Result, Ok, Err, refl, sym, ap, subst, ◌∙◌, length, take, append-nil, arith}
use Rattle.std.specs.Prelude.{IfErr, IfOk, OnErr, OnOk}
use Rattle.std.specs.declared.option.Option.{Option}
use Rattle.std.specs.Io.KnownBytes.{Appends}
use Rattle.mu_io.specs.Faults.{Rose}
use Rattle.mu_io.specs.declared.whole.WriteFault.{WriteFault}
use Rattle.mu_report.specs.declared.line.TheConstants.{LINE_BYTES}
use Rattle.mu_report.specs.Printing.{ended, Over, Printed, taken_by, Writes, WritesBy}
use Rattle.mu_report.specs.Prints.{writes_append}

by_cut : {K : Type 0} (written : K → Option (List ℕ)) (faults : K → ℕ) (i j : Bool) (p q : Over K) (bytes : List ℕ) → p.is_cut ≡ i → q.is_cut ≡ j
    → WritesBy written faults i j p bytes q → Writes written faults p bytes q
by_cut written faults i j p q bytes before after wrote =
    subst (λ b. WritesBy written faults b q.is_cut p bytes q) (sym before) (subst (λ b. WritesBy written faults i b p bytes q) (sym after) wrote)

-- a fault came after some of what was held
pub wrote_part : {K : Type 0} (written : K → Option (List ℕ)) (faults : K → ℕ) (p q : Over K) (bytes : List ℕ) (most : ℕ) → p.is_cut ≡ false → q.is_cut ≡ true → bytes ≡ p.held
    → Appends (written p.sink) (written q.sink) (take most bytes) → most < length bytes
    → (p.taken + most < 2 ^ 64 → q.taken ≡ p.taken + most) → Rose (faults p.sink) (faults q.sink) → faults p.sink ≤ faults q.sink → Writes written faults p [] q
wrote_part written faults p q bytes most before after is appended short count fault never =
    by_cut written faults false true p q [] before after
    (record {
      most = most;
      appended = subst (λ l. Appends (written p.sink) (written q.sink) (take most l)) (is ∙ sym (append-nil p.held)) appended;
      short = (let same = ap length is in omega (arith, same, short));
      count = count;
      fault = fault;
      never_falls = never;
    })

-- what a printer tells of a text, once it is finished
pub record Told {K : Type 0} (written : K → Option (List ℕ)) (faults : K → ℕ) (before after : K) (text : List ℕ) (result : Result ℕ WriteFault) : Type 0 where
  pub whole : OnOk result (Appends (written before) (written after) text)
  pub count : IfOk result (λ count. count ≡ length text)
  pub same_faults : OnOk result (faults after ≡ faults before)
  pub part : IfErr result (λ fault. Appends (written before) (written after) (take fault.taken text))
  pub short : IfErr result (λ fault. fault.taken < length text)
  pub fault : OnErr result (Rose (faults before) (faults after))
  pub never_falls : faults before ≤ faults after

told_by : {K : Type 0} (written : K → Option (List ℕ)) (faults : K → ℕ) (cut : Bool) (p q : Over K) (text : List ℕ) → p.held ≡ [] → p.taken ≡ 0 → q.held ≡ []
    → length text < 2 ^ 64 → WritesBy written faults false cut p text q → Told written faults p.sink q.sink text (taken_by cut q.taken)
told_by written faults false p q text none first left fits wrote =
    let whole : wrote.front ≡ text = sym (append-nil wrote.front) ∙ ap (λ l. wrote.front ++ l) (sym left) ∙ sym wrote.parts ∙ ap (λ l. l ++ text) none in
    let size = ap length whole in
    let count = wrote.count (omega (arith, first, size, fits)) in
    record {
      whole = subst (Appends (written p.sink) (written q.sink)) whole wrote.appended;
      count = omega (arith, count, first, size);
      same_faults = wrote.same_faults;
      part = tt;
      short = tt;
      fault = tt;
      never_falls = (let same = wrote.same_faults in omega (arith, same));
    }
told_by written faults true p q text none first left fits wrote =
    let held = ap length none in
    let low = wrote.short in
    let count = wrote.count (omega (arith, first, held, low, fits)) in
    let most : q.taken ≡ wrote.most = omega (arith, count, first) in
    record {
      whole = tt;
      count = tt;
      same_faults = tt;
      part = subst (λ n. Appends (written p.sink) (written q.sink) (take n text)) (sym most)
          (subst (λ l. Appends (written p.sink) (written q.sink) (take wrote.most (l ++ text))) none wrote.appended);
      short = omega (arith, most, held, low);
      fault = wrote.fault;
      never_falls = wrote.never_falls;
    }

-- lines are printed from the start on, and then what is held is written
pub told : {K : Type 0} (written : K → Option (List ℕ)) (faults : K → ℕ) (p q r : Over K) (lines : List (List ℕ)) → p.held ≡ [] → p.taken ≡ 0 → p.is_cut ≡ false
    → LINE_BYTES * length lines < 2 ^ 64 → Printed written faults p lines q → Writes written faults q [] r → r.held ≡ []
    → Told written faults p.sink r.sink (ended lines) (taken_by r.is_cut r.taken)
told written faults p q r lines none first uncut fits printed wrote left =
    let all : Writes written faults p (ended lines) r =
    subst (λ l. Writes written faults p l r) (append-nil (ended lines)) (writes_append written faults p.is_cut q.is_cut r.is_cut p q r (ended lines) [] printed.bytes wrote) in
    (told_by written faults r.is_cut p r (ended lines) none first left (let bound = printed.bound in omega (arith, bound, fits)) (subst (λ b. WritesBy written faults b r.is_cut p (ended lines) r) uncut all))

-- a fact of the fault that is answered
pub err_of : {T E : Type 0} (P : E → Type 0) (result : Result T E) → ((fault : E) → result ≡ Err fault → P fault) → IfErr result P
err_of P (Ok x) known = tt
err_of P (Err fault) known = known fault refl

-- what was written up to a fault
pub part_at : {K : Type 0} (written : K → Option (List ℕ)) (faults : K → ℕ) (old before after : K) (text : List ℕ) (result : Result ℕ WriteFault) (fault : WriteFault)
    → before ≡ old → Told written faults before after text result → result ≡ Err fault → Appends (written old) (written after) (take fault.taken text)
part_at written faults old before after text result fault same told is =
    subst (λ k. Appends (written k) (written after) (take fault.taken text)) same
    (subst (λ r. IfErr r (λ fault. Appends (written before) (written after) (take fault.taken text))) is told.part)
