-- All that share a list know its rows in one order.
use Rattle.std.proofs.Common.{◌≡◌, ◌∙◌, ◌∷◌, ◌++◌, ◌+◌, ◌==◌, ◌≤◌, ℕ, List, [], Bool, true, false, ap, arith, refl, subst, sym, true≢false, if◌then◌else◌}
use Rattle.std.specs.Prelude.{suc, zero}
use Rattle.std.proofs.lemmas.List.{append_assoc, append-nil}
use Rattle.kv_store.specs.Commands.{Request}
use Rattle.lone_replica.specs.Appending.{next_request, row_of}
use Rattle.mu_inbox.specs.Entries.{IsEntry, IsRead, ListGoesOn, OneList}
use Rattle.mu_inbox.specs.Memory.{AreAnswered, Made, own_of}
use Rattle.mu_model.specs.declared.config.Config.{Config}
use Rattle.mu_model.specs.declared.config.Row.{Row}
use Rattle.mu_model.specs.Growing.{with_more}
use Rattle.mu_rows.specs.Rows.{IsCommand, spelled}
use Rattle.shared_replica.specs.Knowing.{Knows, ReadsCommand, with_command}
use Rattle.shared_replica.proofs.Bringing.{knows_on}
use Rattle.shared_replica.specs.Orders.{KnowsRow, OneOrder}

-- two commands with one row are the same
abbrev pub RowsDiffer : Type 0
RowsDiffer =
    (c d : Request) (j k : ℕ) → IsCommand c → IsCommand d → j ≤ 3 → k ≤ 3
    → spelled c j ≡ spelled d k → (c ≡ d) × (j ≡ k)

-- a moment of all processes at which r had made just these accesses
record MomentOf (r : ℕ) (made earlier : List Made) : Type 0 where
  more : List Made
  past : List Made
  parts : made ≡ more ++ past
  own : own_of r past ≡ earlier

later_moment : (r : ℕ) (m : Made) (made earlier : List Made) → MomentOf r made earlier → MomentOf r (m ∷ made) earlier
later_moment r m made earlier at = record {
  more = m ∷ at.more;
  past = at.past;
  parts = ap (λ (l : List Made). m ∷ l) at.parts;
  own = at.own;
}

tail_of : List Made → List Made
tail_of [] = []
tail_of (m ∷ rest) = rest

is_empty : List Made → Bool
is_empty [] = true
is_empty (m ∷ rest) = false

one_earlier : (r : ℕ) (n m : Made) (past later earlier : List Made) (b : Bool) → (r == n.by) ≡ b → own_of r (n ∷ past) ≡ m ∷ (later ++ earlier) → (own_of r past ≡ later ++ earlier → MomentOf r past earlier) → (own_of r past ≡ m ∷ (later ++ earlier) → MomentOf r past earlier) → MomentOf r (n ∷ past) earlier
unfolding tail_of
one_earlier r n m past later earlier true by is own other =
    later_moment r n past earlier
    (own (ap tail_of (sym (ap (λ (b : Bool). if b then n ∷ own_of r past else own_of r past) by) ∙ is)))
one_earlier r n m past later earlier false by is own other =
    later_moment r n past earlier
    (other (sym (ap (λ (b : Bool). if b then n ∷ own_of r past else own_of r past) by) ∙ is))

moment_of : (r : ℕ) (made later earlier : List Made) → own_of r made ≡ later ++ earlier → MomentOf r made earlier
unfolding is_empty
moment_of r made [] earlier is = record { more = []; past = made; parts = refl; own = is }
moment_of r [] (m ∷ later) earlier is = absurd (true≢false (ap is_empty is))
moment_of r (n ∷ past) (m ∷ later) earlier is =
    one_earlier r n m past later earlier (r == n.by) refl is
    (moment_of r past later earlier) (moment_of r past (m ∷ later) earlier)

answered_before : (made more : List Made) → AreAnswered (more ++ made) → AreAnswered made
answered_before made [] answered = answered
answered_before made (m ∷ more) answered = answered_before made more answered.0

-- what a process read at any moment stands in the list
read_stands : OneList → ListGoesOn → (r p : ℕ) (made earlier : List Made) (command : Request) → AreAnswered made → MomentOf r made earlier → ReadsCommand earlier p command → IsEntry made p (spelled command 0)
read_stands one on r p made earlier command answered at reads =
    let all = subst AreAnswered at.parts answered in
    let law = one at.past (answered_before at.past at.more all) in
    let words = spelled command 0 in
    let was = law.read r p words (subst (λ (own : List Made). IsRead own p words) (sym at.own) reads.read) in
    subst (λ (l : List Made). IsEntry l p words) (sym at.parts) ((on.goes at.past at.more all).entry p words was)

known_on : (base c : Config) (later earlier : List Made) (p : ℕ) → Knows base earlier p c → Knows base (later ++ earlier) p c
known_on base c [] earlier p is = is
known_on base c (m ∷ later) earlier p is = knows_on base c (later ++ earlier) m p (known_on base c later earlier p is)

row_known : OneList → ListGoesOn → (base c : Config) (made : List Made) (r p : ℕ) → AreAnswered made → Knows base (own_of r made) (suc p) c → KnowsRow base made r p c
row_known one on base c made r p answered (before, command, later, earlier, parts, reads, knew, is) = record {
  before = before;
  command = command;
  knew = subst (λ (own : List Made). Knows base own p before) (sym parts) (known_on base before later earlier p knew);
  is = reads.is;
  stands = read_stands one on r p made earlier command answered (moment_of r made later earlier parts) reads;
  next = is;
}

same_known : OneList → ListGoesOn → RowsDiffer → (base : Config) (made : List Made) → AreAnswered made → (r q p : ℕ) (c d : Config) → Knows base (own_of r made) p c → Knows base (own_of q made) p d → c ≡ d
same_known one on differ base made answered r q zero c d sooner later = sooner ∙ sym later
same_known one on differ base made answered r q (suc p) c d sooner later =
    let x = row_known one on base c made r p answered sooner in
    let y = row_known one on base d made q p answered later in
    let words = (one made answered).same p (spelled x.command 0) (spelled y.command 0) x.stands y.stands in
    let command = (differ x.command y.command 0 0 x.is y.is (omega arith) (omega arith) words).0 in
    let before = same_known one on differ base made answered r q p x.before y.before x.knew y.knew in
    x.next ∙ (ap (λ (k : Config). with_command k x.command) before ∙ (ap (λ (k : Request). with_command y.before k) command ∙ sym y.next))

joined : (c : Config) (a b : List Row) → with_more (with_more c a) b ≡ with_more c (a ++ b)
joined c a b = ap (λ (l : List Row). record { version = c.version; width = c.width; replicas = c.replicas; ring = c.ring; budget = c.budget; rows = l }) (append_assoc c.rows a b)

first_known : OneList → ListGoesOn → RowsDiffer → (base : Config) (made : List Made) → AreAnswered made → (r q p more : ℕ) (c d : Config) → Knows base (own_of r made) p c → Knows base (own_of q made) (p + more) d → (rows : List Row) × (d ≡ with_more c rows)
first_known one on differ base made answered r q p zero c d sooner later =
    let at = subst (λ (n : ℕ). Knows base (own_of q made) n d) (let e : p + 0 ≡ p = omega arith in e) later in
    ([], sym (same_known one on differ base made answered r q p c d sooner at) ∙ with_none c)
  where
    with_none : (k : Config) → k ≡ with_more k []
    with_none k = ap (λ (l : List Row). record { version = k.version; width = k.width; replicas = k.replicas; ring = k.ring; budget = k.budget; rows = l }) (sym (append-nil k.rows))
first_known one on differ base made answered r q p (suc more) c d sooner later =
    let at = subst (λ (n : ℕ). Knows base (own_of q made) n d) (let e : p + suc more ≡ suc (p + more) = omega arith in e) later in
    let y = row_known one on base d made q (p + more) answered at in
    let was = first_known one on differ base made answered r q p more c y.before sooner y.knew in
    let row = row_of (next_request y.before y.command.client y.command.op) in
    (was.0 ++ (row ∷ []), y.next ∙ (ap (λ (k : Config). with_more k (row ∷ [])) was.1 ∙ joined c was.0 (row ∷ [])))

pub one_order_law : OneList → ListGoesOn → RowsDiffer → OneOrder
one_order_law one on differ base made answered = record {
  row = λ r p c is. row_known one on base c made r p answered (subst (λ (n : ℕ). Knows base (own_of r made) n c) (let e : p + 1 ≡ suc p = omega arith in e) is);
  same = same_known one on differ base made answered;
  first = first_known one on differ base made answered;
}
