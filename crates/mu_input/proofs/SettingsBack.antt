-- The first lines of a job are read back as its settings.
use Rattle.std.proofs.Common.{◌≡◌, ◌≢◌, ℕ, ◌+◌, ◌<◌, ◌≤◌, ◌^◌, ◌==◌, nat_le, ◌&&◌, Bool, true, false, cond, List, [], ◌∷◌, ◌++◌, length, codes, None, Some, refl, sym, ap, subst, ◌∙◌, ⊎_elim, arith}
use Rattle.std.specs.Fmt.{decimal}
use Rattle.std.specs.List.{All}
use Rattle.std.specs.Option.{option_map_or}
use Rattle.std.specs.Str.{bytes_eq}
use Rattle.std.specs.declared.option.Option.{Option}
use Rattle.std.proofs.lemmas.Bool.Decides.{eqb_tells, nat_tests}
use Rattle.std.proofs.lemmas.List.Elements.{All-cons, All-nil}
use Rattle.std.proofs.lemmas.Slice.Eq.{bytes_eq-Decides}
use Rattle.mu_text.specs.Lines.{Left, words}
use Rattle.mu_text.specs.Numbers.{number_of, within}
use Rattle.mu_text.specs.declared.TheConstants.{SPACE}
use Rattle.mu_text.proofs.Decimals.{within-decimal}
use Rattle.mu_text.proofs.SpelledWords.{IsOneLine, IsOneWord, Spells, Spells-then, Spells-word, one_number, written}
use Rattle.mu_input.specs.Readings.{Front, Begins, Breaks}
use Rattle.mu_input.specs.Settings.{HasLimits, setting, setting_among, setting_at, settings_at, width_at}
use Rattle.mu_input.specs.declared.TheConstants.{MOST_REPLICAS, LEAST_RING, MOST_RING, MOST_STEPS, MOST_WIDTH}
use Rattle.mu_input.specs.declared.cause.TheConstants.{HEAD, REPLICAS, RING, BUDGET, BATCH}
use Rattle.mu_input.specs.declared.heading.Settings.{Settings}
use Rattle.mu_input.proofs.Fronts.{Gives, followed_by, gives_followed}
use Rattle.std.proofs.lemmas.Bool.{and_parts}

-- a name and a number
pub numbered-spells : (name : List ℕ) (n : ℕ) → IsOneWord name → n < 2 ^ 64 → Spells (name ++ SPACE ∷ decimal n) (name ∷ decimal n ∷ [])
numbered-spells name n one fits = Spells-then name (decimal n) (decimal n ∷ []) one (Spells-word (decimal n) (one_number n fits))

same_name : (name : List ℕ) → bytes_eq name name ≡ true
same_name name = (bytes_eq-Decides name name).1 refl

-- a line of a name and a number is read back
setting_at-back : (name : List ℕ) (low high cause number n : ℕ) (rest : List (List ℕ)) → IsOneWord name → low ≤ n → n ≤ high → n < 10000000
    → setting_at name low high cause (record { number = number; lines = (name ++ SPACE ∷ decimal n) ∷ rest }) ≡ Begins n (record { number = number + 1; lines = rest })
setting_at-back name low high cause number n rest one least most few =
    let told : setting name low high (words (name ++ SPACE ∷ decimal n)) ≡ Some n =
    ap (setting name low high) (numbered-spells name n one (omega (arith, few))).alone
    ∙ ap (λ b. cond b (within low high (number_of (decimal n))) None) (same_name name)
    ∙ within-decimal low high n least most few in
    ap (λ said. option_map_or (λ value. Begins value (record { number = number + 1; lines = rest })) said (Breaks number cause)) told

width-back : (settings : Settings) (number : ℕ) (rest : List (List ℕ)) → HasLimits settings → (two : Bool) → (settings.version == 2) ≡ two
    → width_at settings.version (record { number = number; lines = cond two ((codes "batch " ++ decimal settings.width) ∷ []) [] ++ rest })
    ≡ Begins settings.width (record { number = number + length (cond two ((codes "batch " ++ decimal settings.width) ∷ []) []); lines = rest })
width-back settings number rest limits true is =
    ap (λ b. cond b (setting_at (codes "batch") 1 MOST_WIDTH BATCH (record { number = number; lines = (codes "batch " ++ decimal settings.width) ∷ rest })) (Begins 1 (record { number = number; lines = (codes "batch " ++ decimal settings.width) ∷ rest }))) is
    ∙ setting_at-back (codes "batch") 1 MOST_WIDTH BATCH number settings.width rest (written (codes "batch") refl) limits.width_least limits.width_most (omega (arith, limits.width_most))
width-back settings number rest limits false is =
    let first : settings.version ≡ 1 = ⊎_elim
    (λ (t : ((settings.version == 2) ≡ true) × (settings.version ≡ 2)). let clash : true ≡ false = sym t.0 ∙ is in cc)
    (λ (t : ((settings.version == 2) ≡ false) × (settings.version ≢ 2)). omega (arith, t.1, limits.version_least, limits.version_most))
    (eqb_tells settings.version 2) in
    let single : 1 ≡ settings.width = sym (limits.single first) in
    let none : number ≡ number + 0 = omega arith in
    ap (λ b. cond b (setting_at (codes "batch") 1 MOST_WIDTH BATCH (record { number = number; lines = rest })) (Begins 1 (record { number = number; lines = rest }))) is
    ∙ ap (λ width. Begins width (record { number = number; lines = rest })) single
    ∙ ap (λ number. Begins settings.width (record { number = number; lines = rest })) none

-- the first lines of a job of these settings
abbrev pub first_lines : Settings → List (List ℕ)
first_lines settings =
    (codes "mu " ++ decimal settings.version) ∷ (codes "replicas " ++ decimal settings.replicas)
    ∷ (codes "ring " ++ decimal settings.ring) ∷ (codes "budget " ++ decimal settings.budget)
    ∷ (cond (settings.version == 2) ((codes "batch " ++ decimal settings.width) ∷ []) [])

-- they are read back as the settings
pub settings_at-back : (settings : Settings) (number : ℕ) (rest : List (List ℕ)) → HasLimits settings
    → settings_at (record { number = number; lines = first_lines settings ++ rest }) ≡ Begins settings (record { number = number + length (first_lines settings); lines = rest })
settings_at-back settings number rest limits =
    let batch = cond (settings.version == 2) ((codes "batch " ++ decimal settings.width) ∷ []) [] in
    let counted : number + 1 + 1 + 1 + 1 + length batch ≡ number + length (first_lines settings) = omega arith in
    followed_by _ _ _ _ _ (setting_at-back (codes "mu") 1 2 HEAD number settings.version _ (written (codes "mu") refl) limits.version_least limits.version_most (omega (arith, limits.version_most)))
    (followed_by _ _ _ _ _ (setting_at-back (codes "replicas") 1 MOST_REPLICAS REPLICAS (number + 1) settings.replicas _ (written (codes "replicas") refl) limits.replicas_least limits.replicas_most (omega (arith, limits.replicas_most)))
    (followed_by _ _ _ _ _ (setting_at-back (codes "ring") LEAST_RING MOST_RING RING (number + 1 + 1) settings.ring _ (written (codes "ring") refl) limits.ring_least limits.ring_most (omega (arith, limits.ring_most)))
    (followed_by _ _ _ _ _ (setting_at-back (codes "budget") 1 MOST_STEPS BUDGET (number + 1 + 1 + 1) settings.budget _ (written (codes "budget") refl) limits.budget_least limits.budget_most (omega (arith, limits.budget_most)))
    (followed_by _ _ _ _ _ (width-back settings (number + 1 + 1 + 1 + 1) rest limits (settings.version == 2) refl)
    (ap (λ number. Begins settings (record { number = number; lines = rest })) counted)))))

-- each of them is one line
pub first_lines-one : (settings : Settings) → HasLimits settings → All IsOneLine (first_lines settings)
first_lines-one settings limits =
    let batch = cond (settings.version == 2) ((codes "batch " ++ decimal settings.width) ∷ []) [] in
    let budget = (codes "budget " ++ decimal settings.budget) ∷ batch in
    let ring = (codes "ring " ++ decimal settings.ring) ∷ budget in
    let replicas = (codes "replicas " ++ decimal settings.replicas) ∷ ring in
    one (codes "mu") settings.version replicas (written (codes "mu") refl) (omega (arith, limits.version_most))
    (one (codes "replicas") settings.replicas ring (written (codes "replicas") refl) (omega (arith, limits.replicas_most))
    (one (codes "ring") settings.ring budget (written (codes "ring") refl) (omega (arith, limits.ring_most))
    (one (codes "budget") settings.budget batch (written (codes "budget") refl) (omega (arith, limits.budget_most))
    (last (settings.version == 2)))))
  where
    one : (name : List ℕ) (n : ℕ) (rest : List (List ℕ)) → IsOneWord name → n < 2 ^ 64 → All IsOneLine rest → All IsOneLine ((name ++ SPACE ∷ decimal n) ∷ rest)
    one name n rest word fits all = All-cons IsOneLine (name ++ SPACE ∷ decimal n) rest (numbered-spells name n word fits).one_line all

    last : (two : Bool) → All IsOneLine (cond two ((codes "batch " ++ decimal settings.width) ∷ []) [])
    last true = All-cons IsOneLine (codes "batch " ++ decimal settings.width) [] (numbered-spells (codes "batch") settings.width (written (codes "batch") refl) (omega (arith, limits.width_most))).one_line (All-nil IsOneLine)
    last false = All-nil IsOneLine

pub within-gives : (low high : ℕ) (said : Option ℕ) (n : ℕ) → within low high said ≡ Some n → (low ≤ n) × (n ≤ high)
within-gives low high None n e = cc
within-gives low high (Some m) n e = by_test (nat_le low m && nat_le m high) refl e
  where
    by_test : (b : Bool) → (nat_le low m && nat_le m high) ≡ b → cond b (Some m) None ≡ Some n → (low ≤ n) × (n ≤ high)
    by_test true is e =
        let same : m ≡ n = cc in
        let tests = and_parts (nat_le low m) (nat_le m high) is in
        let first : low ≤ m = grind (arith, nat_tests) in
        let second : m ≤ high = grind (arith, nat_tests) in
        (omega (arith, same, first), omega (arith, same, second))
    by_test false is e = cc

setting-gives : (name : List ℕ) (low high n : ℕ) (ws : List (List ℕ)) → setting name low high ws ≡ Some n → (low ≤ n) × (n ≤ high)
setting-gives name low high n [] e = cc
setting-gives name low high n (word ∷ []) e = cc
setting-gives name low high n (word ∷ value ∷ []) e = by_test (bytes_eq word name) e
  where
    by_test : (b : Bool) → cond b (within low high (number_of value)) None ≡ Some n → (low ≤ n) × (n ≤ high)
    by_test true e = within-gives low high (number_of value) n e
    by_test false e = cc
setting-gives name low high n (word ∷ value ∷ more ∷ rest) e = cc

-- a setting is within its limits
setting_at-gives : (name : List ℕ) (low high cause : ℕ) (left : Left) → Gives (λ n. (low ≤ n) × (n ≤ high)) (setting_at name low high cause left)
setting_at-gives name low high cause left = by_lines left.number left.lines
  where
    by_value : (number : ℕ) (lines : List (List ℕ)) (said : Option ℕ) → ((n : ℕ) → said ≡ Some n → (low ≤ n) × (n ≤ high))
        → Gives (λ n. (low ≤ n) × (n ≤ high)) (option_map_or (λ value. Begins value (record { number = number + 1; lines = lines })) said (Breaks number cause))
    by_value number lines None gives = tt
    by_value number lines (Some n) gives = gives n refl

    by_lines : (number : ℕ) (lines : List (List ℕ)) → Gives (λ n. (low ≤ n) × (n ≤ high)) (setting_among name low high cause number lines)
    by_lines number [] = tt
    by_lines number (line ∷ lines) = by_value number lines (setting name low high (words line)) (λ n e. setting-gives name low high n (words line) e)

abbrev IsWidth : ℕ → ℕ → Type 0
IsWidth version width = (1 ≤ width) × (width ≤ MOST_WIDTH) × (version ≡ 1 → width ≡ 1)

width_at-gives : (version : ℕ) (left : Left) → Gives (IsWidth version) (width_at version left)
width_at-gives version left = ⊎_elim
    (λ (t : ((version == 2) ≡ true) × (version ≡ 2)). subst (λ b. Gives (IsWidth version) (cond b (setting_at (codes "batch") 1 MOST_WIDTH BATCH left) (Begins 1 left))) (sym t.0) (batch t.1 (setting_at (codes "batch") 1 MOST_WIDTH BATCH left) (setting_at-gives (codes "batch") 1 MOST_WIDTH BATCH left)))
    (λ (t : ((version == 2) ≡ false) × (version ≢ 2)). subst (λ b. Gives (IsWidth version) (cond b (setting_at (codes "batch") 1 MOST_WIDTH BATCH left) (Begins 1 left))) (sym t.0) (omega arith, omega arith, λ _. refl))
    (eqb_tells version 2)
  where
    batch : version ≡ 2 → (front : Front ℕ) → Gives (λ n. (1 ≤ n) × (n ≤ MOST_WIDTH)) front → Gives (IsWidth version) front
    batch is (Begins n after) gives = (gives.0, gives.1, λ one. absurd (omega (arith, is, one)))
    batch is (Breaks line cause) gives = tt

-- settings that are read have their limits
pub settings_at-gives : (left : Left) → Gives HasLimits (settings_at left)
settings_at-gives left =
    gives_followed HasLimits (λ n. (1 ≤ n) × (n ≤ 2)) (setting_at (codes "mu") 1 2 HEAD left) _ (setting_at-gives (codes "mu") 1 2 HEAD left) (λ version left first.
    gives_followed HasLimits (λ n. (1 ≤ n) × (n ≤ MOST_REPLICAS)) (setting_at (codes "replicas") 1 MOST_REPLICAS REPLICAS left) _ (setting_at-gives (codes "replicas") 1 MOST_REPLICAS REPLICAS left) (λ replicas left second.
    gives_followed HasLimits (λ n. (LEAST_RING ≤ n) × (n ≤ MOST_RING)) (setting_at (codes "ring") LEAST_RING MOST_RING RING left) _ (setting_at-gives (codes "ring") LEAST_RING MOST_RING RING left) (λ ring left third.
    gives_followed HasLimits (λ n. (1 ≤ n) × (n ≤ MOST_STEPS)) (setting_at (codes "budget") 1 MOST_STEPS BUDGET left) _ (setting_at-gives (codes "budget") 1 MOST_STEPS BUDGET left) (λ budget left fourth.
    gives_followed HasLimits (IsWidth version) (width_at version left) _ (width_at-gives version left) (λ width left fifth.
    record {
      version_least = first.0;
      version_most = first.1;
      single = fifth.2;
      width_least = fifth.0;
      width_most = fifth.1;
      replicas_least = second.0;
      replicas_most = second.1;
      ring_least = third.0;
      ring_most = third.1;
      budget_least = fourth.0;
      budget_most = fourth.1;
    })))))
