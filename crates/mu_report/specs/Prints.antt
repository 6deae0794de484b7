-- printed one after the other: what is printed piece by piece is printed as one.
use Rattle.std.proofs.Common.{◌≡◌, ℕ, ◌+◌, ◌≤◌, Bool, true, false, List, [], ◌∷◌, ◌++◌, refl, sym, ap, subst, ◌∙◌, length, take, append_assoc, append-nil, arith, length-append}
use Rattle.std.specs.declared.option.Option.{Option}
use Rattle.std.proofs.lemmas.List.{take-append-le}
use Rattle.std.proofs.Math.Seq.{take-append-add}
use Rattle.std.specs.Io.KnownBytes.{Appends}
use Rattle.std.proofs.KnownBytes.{Appends-nil, Appends-trans}
use Rattle.mu_io.specs.Faults.{Rose}
use Rattle.mu_report.specs.Printing.{ended, Over, Printed, Writes, WritesAll, WritesBy, WritesNothing, WritesPart}

pub ended_append : (xs ys : List (List ℕ)) → ended (xs ++ ys) ≡ ended xs ++ ended ys
ended_append [] ys = refl
ended_append (x ∷ xs) ys =
    ap (λ l. x ++ 10 ∷ l) (ended_append xs ys) ∙ sym (append_assoc x (10 ∷ ended xs) (ended ys))

-- what was held, the bytes, and others after them
both_parts : {K : Type 0} (written : K → Option (List ℕ)) (faults : K → ℕ) (p q : Over K)
    (xs ys : List ℕ) → (first : WritesAll written faults p xs q)
    → p.held ++ (xs ++ ys) ≡ first.front ++ (q.held ++ ys)
both_parts written faults p q xs ys first = sym (append_assoc p.held xs ys)
    ∙ ap (λ l. l ++ ys) first.parts ∙ append_assoc first.front q.held ys

all_append : {K : Type 0} (written : K → Option (List ℕ)) (faults : K → ℕ) (p q r : Over K)
    (xs ys : List ℕ) → WritesAll written faults p xs q → WritesAll written faults q ys r
    → WritesAll written faults p (xs ++ ys) r
all_append written faults p q r xs ys first second = record {
  front = first.front ++ second.front;
  parts = both_parts written faults p q xs ys first
      ∙ ap (λ l. first.front ++ l) second.parts
      ∙ sym (append_assoc first.front second.front r.held);
  appended = Appends-trans _ _ _ _ _ first.appended second.appended;
  same_faults = second.same_faults ∙ first.same_faults;
  count = λ fits. let both = length-append first.front second.front
      in let one = first.count (omega arith) in let two = second.count (omega arith)
      in omega arith;
}

part_append : {K : Type 0} (written : K → Option (List ℕ)) (faults : K → ℕ) (p q r : Over K)
    (xs ys : List ℕ) → WritesAll written faults p xs q → WritesPart written faults q ys r
    → WritesPart written faults p (xs ++ ys) r
part_append written faults p q r xs ys first second = record {
  most = length first.front + second.most;
  appended = subst (λ l. Appends (written p.sink) (written r.sink)
      (take (length first.front + second.most) l))
      (sym (both_parts written faults p q xs ys first))
      (subst (Appends (written p.sink) (written r.sink))
      (sym (take-append-add first.front (q.held ++ ys) second.most))
      (Appends-trans _ _ _ _ _ first.appended second.appended));
  short = (let cut = ap length first.parts in omega (
    arith,
    cut,
    length-append p.held xs,
    length-append first.front q.held,
    length-append xs ys,
    second.short,
  ));
  count = λ fits. let one = first.count (omega arith) in let two = second.count (omega arith)
      in omega arith;
  fault = subst (λ k. Rose k (faults r.sink)) first.same_faults second.fault;
  never_falls = omega (arith, first.same_faults, second.never_falls);
}

part_front : {K : Type 0} (written : K → Option (List ℕ)) (faults : K → ℕ) (p q r : Over K)
    (xs ys : List ℕ) → WritesPart written faults p xs q → WritesNothing q r
    → WritesPart written faults p (xs ++ ys) r
part_front written faults p q r xs ys first second = record {
  most = first.most;
  appended = subst (λ k. Appends (written p.sink) (written k)
      (take first.most (p.held ++ (xs ++ ys)))) (sym second.same_sink)
      (subst (λ l. Appends (written p.sink) (written q.sink) (take first.most l))
      (append_assoc p.held xs ys)
      (subst (Appends (written p.sink) (written q.sink))
      (sym (take-append-le first.most (p.held ++ xs) ys
      (omega (arith, first.short, length-append p.held xs)))) first.appended));
  short = omega (arith, length-append xs ys, first.short);
  count = λ fits. second.same_count ∙ first.count (omega arith);
  fault = subst (λ k. Rose (faults p.sink) (faults k)) (sym second.same_sink) first.fault;
  never_falls = (let same = ap faults second.same_sink in omega (arith, same, first.never_falls));
}

pub writes_append : {K : Type 0} (written : K → Option (List ℕ)) (faults : K → ℕ) (i j k : Bool)
    (p q r : Over K) (xs ys : List ℕ) → WritesBy written faults i j p xs q
    → WritesBy written faults j k q ys r → WritesBy written faults i k p (xs ++ ys) r
writes_append written faults false false false p q r xs ys first second =
    all_append written faults p q r xs ys first second
writes_append written faults false false true p q r xs ys first second =
    part_append written faults p q r xs ys first second
writes_append written faults false true true p q r xs ys first second =
    part_front written faults p q r xs ys first second
writes_append written faults false true false p q r xs ys first second = absurd second
writes_append written faults true false false p q r xs ys first second = absurd first
writes_append written faults true false true p q r xs ys first second = absurd first
writes_append written faults true true false p q r xs ys first second = absurd second
writes_append written faults true true true p q r xs ys first second = record {
  same_sink = second.same_sink ∙ first.same_sink;
  same_count = second.same_count ∙ first.same_count;
}

-- bytes that are held are written no less
pub held_more : {K : Type 0} (written : K → Option (List ℕ)) (faults : K → ℕ) (cut : Bool)
    (p : Over K) (bytes : List ℕ)
    → WritesBy written faults cut cut p bytes (record p { held = p.held ++ bytes })
held_more written faults false p bytes = record {
  front = [];
  parts = refl;
  appended = Appends-nil (written p.sink);
  same_faults = refl;
  count = λ _. omega arith;
}
held_more written faults true p bytes = record { same_sink = refl; same_count = refl }

-- holding these bytes, and holding more
abbrev holding : {K : Type 0} → Over K → List ℕ → Over K
holding o bytes = record o { held = bytes }

abbrev more_held : {K : Type 0} → List ℕ → Over K → Over K
more_held bytes o = record o { held = o.held ++ bytes }

-- no line
pub printed_nothing : {K : Type 0} (written : K → Option (List ℕ)) (faults : K → ℕ) (p : Over K)
    → Printed written faults p [] p
printed_nothing written faults p = record {
  bytes = subst (λ l. Writes written faults p [] (holding p l)) (append-nil p.held)
      (held_more written faults p.is_cut p []);
  bound = omega arith;
  only_held = λ _. ap (holding p) (sym (append-nil p.held));
}

-- what is only held, and then more that is
only_held_append : {K : Type 0} (p q r : Over K) (xs ys : List (List ℕ))
    → (length p.held + length (ended xs) ≤ 32768 → q ≡ more_held (ended xs) p)
    → (length q.held + length (ended ys) ≤ 32768 → r ≡ more_held (ended ys) q)
    → length p.held + length (ended (xs ++ ys)) ≤ 32768 → r ≡ more_held (ended (xs ++ ys)) p
only_held_append {K} p q r xs ys first second room =
    let both : length (ended (xs ++ ys)) ≡ length (ended xs) + length (ended ys) =
    ap length (ended_append xs ys) ∙ length-append (ended xs) (ended ys) in
    let held : Over K → List ℕ = λ o. o.held in
    let one : q ≡ more_held (ended xs) p = first (omega (arith, both, room)) in
    let size : length q.held ≡ length p.held + length (ended xs) =
    ap length (ap held one) ∙ length-append p.held (ended xs) in
    let two : r ≡ more_held (ended ys) q = second (omega (arith, both, size, room)) in
    let whole : (p.held ++ ended xs) ++ ended ys ≡ p.held ++ ended (xs ++ ys) =
    append_assoc p.held (ended xs) (ended ys)
    ∙ ap (λ l. p.held ++ l) (sym (ended_append xs ys)) in
    two ∙ ap (more_held (ended ys)) one ∙ ap (holding p) whole

-- lines, and then others
pub printed_append : {K : Type 0} (written : K → Option (List ℕ)) (faults : K → ℕ)
    (p q r : Over K) (xs ys : List (List ℕ)) → Printed written faults p xs q
    → Printed written faults q ys r → Printed written faults p (xs ++ ys) r
printed_append written faults p q r xs ys first second = record {
  bytes = subst (λ l. Writes written faults p l r) (sym (ended_append xs ys))
      (writes_append written faults p.is_cut q.is_cut r.is_cut p q r _ _ first.bytes second.bytes);
  bound = (let both = ap length (ended_append xs ys) ∙ length-append (ended xs) (ended ys)
      in omega (arith, both, first.bound, second.bound, length-append xs ys));
  only_held = only_held_append p q r xs ys first.only_held second.only_held;
}
