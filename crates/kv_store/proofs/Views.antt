-- The map of the store answers as the table that it is seen as, and changes as the table does.
use Rattle.std.proofs.Common.{◌≡◌, ℕ, Bool, cond, List, [], ◌∷◌, None, Some, is_some, refl, sym, ap, ◌∙◌, MutBor, arith}
use Rattle.std.specs.Prelude.{false, length, map as map_of, ◌+◌}
use Rattle.std.specs.declared.option.Option.{Option}
use Rattle.std.specs.List.{AllByRecursion, IsDistinct}
use Rattle.std.specs.Str.{bytes_eq}
use Rattle.std.specs.Ordering.{nat_cmp, eq_by_cmp}
use Rattle.std.specs.Cmp.{eq_by_cmp_equiv}
use Rattle.std.specs.Cmp.Lexicographic.{slice_cmp, nat_list_cmp_total, texts_ties}
use Rattle.std.specs.Option.{option_copied_mut}
use Rattle.std.specs.Map.{lookup}
use Rattle.std.specs.FinMap as map
use Rattle.std.specs.FinMap.{find, same_map, get-from_entries, get-insert, get-remove, len-empty, len-insert, nat_cmp-IsAntisymmetric, slice_cmp-IsAntisymmetric}
use Rattle.std.proofs.lemmas.Map.Steps.{set_value_same}
use Rattle.indexmap.specs.IndexMap.{IndexMap, get, Updates, WritesThrough}
use Rattle.kv_store.specs.Tables.{Table, holds, compared, table_after}
use Rattle.kv_store.specs.declared.store.Reply.TheVariants as reply
use Rattle.kv_store.specs.declared.command.Op.TheVariants.{Cas}
use Rattle.kv_store.specs.Texts.{table_of}

lookup-find : (key : List ℕ) (entries : List (List ℕ × List ℕ)) → lookup (bytes_eq key) entries ≡ find (slice_cmp nat_cmp) key entries
lookup-find key [] = refl
lookup-find key (e ∷ entries) = ap (λ b. cond b (Some e.1) (lookup (bytes_eq key) entries)) (texts_ties key e.0) ∙ ap (cond (eq_by_cmp (slice_cmp nat_cmp) key e.0) (Some e.1)) (lookup-find key entries)

-- a key that none of the entries has is not found
not_found : (key : List ℕ) (entries : List (List ℕ × List ℕ)) → AllByRecursion (λ other. bytes_eq key other ≡ false) (map_of (λ e. e.0) entries) → find (slice_cmp nat_cmp) key entries ≡ None
not_found key [] all = refl
not_found key (e ∷ entries) all = ap (λ b. cond b (Some e.1) (find (slice_cmp nat_cmp) key entries)) (sym (texts_ties key e.0) ∙ all.0) ∙ not_found key entries all.1

-- a key that a table doesn't have adds one to it
one_key_more : (table : Table) (key text : List ℕ) → map.get table key ≡ None → map.len table + 1 ≡ map.len (map.insert table key text)
one_key_more table key text none =
    sym (len-insert nat_list_cmp_total table key text ∙ ap (λ found. cond (is_some found) (map.len table) (map.len table + 1)) none)

-- if no two entries have the same key, the table has as many keys as there are entries
pub length-table : (entries : List (List ℕ × List ℕ)) → IsDistinct bytes_eq (map_of (λ e. e.0) entries) → length entries ≡ map.len (map.from_entries {R = slice_cmp nat_cmp} entries)
unfolding IsDistinct
length-table [] distinct = sym (len-empty _ _)
length-table (e ∷ entries) distinct =
    omega (arith, length-table entries distinct.1, one_key_more (map.from_entries entries) e.0 e.1 (get-from_entries nat_list_cmp_total entries e.0 ∙ not_found e.0 entries distinct.0))

-- two tables with the same text at each key are one
one_table : (m n : Table) → ((key : List ℕ) → map.get m key ≡ map.get n key) → m ≡ n
one_table = same_map nat_list_cmp_total (slice_cmp-IsAntisymmetric nat_cmp-IsAntisymmetric)

-- the test of a key comes out alike from either side
turned : (key other : List ℕ) → bytes_eq key other ≡ eq_by_cmp (slice_cmp nat_cmp) other key
turned key other = texts_ties key other ∙ (eq_by_cmp_equiv nat_list_cmp_total).symm key other

module _ {S : Type 0} where
  -- a look-up in the map is one in the table
  pub get-table_of : (texts : IndexMap (List ℕ) (List ℕ) S) (key : List ℕ) → get bytes_eq texts key ≡ map.get (table_of texts) key
  get-table_of texts key = lookup-find key texts.entries ∙ sym (get-from_entries nat_list_cmp_total texts.entries key)

  updated : (old new : IndexMap (List ℕ) (List ℕ) S) (key : List ℕ) (text : Option (List ℕ)) → Updates bytes_eq old new key text
      → (other : List ℕ) → map.get (table_of new) other ≡ cond (eq_by_cmp (slice_cmp nat_cmp) other key) text (map.get (table_of old) other)
  updated old new key text updates other =
      sym (get-table_of new other) ∙ updates.0 other
      ∙ ap (λ b. cond b text (get bytes_eq old other)) (turned key other)
      ∙ ap (cond (eq_by_cmp (slice_cmp nat_cmp) other key) text) (get-table_of old other)

  -- a text that is set in the map is set in the table
  pub table_of-set : (old new : IndexMap (List ℕ) (List ℕ) S) (key text : List ℕ) → Updates bytes_eq old new key (Some text) → table_of new ≡ map.insert (table_of old) key text
  table_of-set old new key text updates = one_table _ _ (λ other. updated old new key (Some text) updates other ∙ sym (get-insert nat_list_cmp_total (table_of old) key text other))

  -- a key that is removed from the map is removed from the table
  pub table_of-removed : (old new : IndexMap (List ℕ) (List ℕ) S) (key : List ℕ) → Updates bytes_eq old new key None → table_of new ≡ map.remove (table_of old) key
  table_of-removed old new key updates = one_table _ _ (λ other. updated old new key None updates other ∙ sym (get-remove nat_list_cmp_total (table_of old) key other))

  -- what a look-up lends is what the table has
  pub get-lent : (texts : IndexMap (List ℕ) (List ℕ) S) (key : List ℕ) (lent is : Option (MutBor (List ℕ))) → option_copied_mut lent ≡ get bytes_eq texts key → lent ≡ is
      → map.get (table_of texts) key ≡ option_copied_mut is
  get-lent texts key lent is value same = sym (get-table_of texts key) ∙ sym value ∙ ap option_copied_mut same

  -- a text that is written over the one of its key is set in the table
  pub table_of-written : (old new : IndexMap (List ℕ) (List ℕ) S) (key text before : List ℕ) → map.get (table_of old) key ≡ Some before
      → WritesThrough bytes_eq (bytes_eq key) old text new → table_of new ≡ map.insert (table_of old) key text
  table_of-written old new key text before found written = table_of-set old new key text (written.3 (ap is_some (get-table_of old key ∙ found)))

  -- a text that is written over itself changes nothing
  pub table_of-kept : (old new : IndexMap (List ℕ) (List ℕ) S) (key text : List ℕ) → map.get (table_of old) key ≡ Some text
      → WritesThrough bytes_eq (bytes_eq key) old text new → table_of new ≡ table_of old
  table_of-kept old new key text found written = ap map.from_entries (written.0 ∙ set_value_same (bytes_eq key) old.entries text (get-table_of old key ∙ found))

-- what cas answers, once the text of the key is known
pub compared-found : (before : Option (List ℕ)) (text old : List ℕ) (same : Bool) → before ≡ Some text → bytes_eq text old ≡ same
    → compared before old ≡ cond same reply.Done (reply.Kept text)
compared-found before text old same found is = ap (λ b. compared b old) found ∙ ap (λ b. cond b reply.Done (reply.Kept text)) is

-- what cas leaves, once the text of the key is known
pub after-found : (table : Table) (key text old new : List ℕ) (same : Bool) → map.get table key ≡ Some text → bytes_eq text old ≡ same
    → table_after table (Cas key old new) ≡ cond same (map.insert table key new) table
after-found table key text old new same found is = ap (λ b. cond b (map.insert table key new) table) (ap (λ b. holds b old) found ∙ is)

-- what cas leaves if the key has no text
pub after-absent : (table : Table) (key old new : List ℕ) → map.get table key ≡ None → table_after table (Cas key old new) ≡ table
after-absent table key old new absent = ap (λ b. cond (holds b old) (map.insert table key new) table) absent
