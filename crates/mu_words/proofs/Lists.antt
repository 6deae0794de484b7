-- Exactly one list of words stands for a list of events.
use Rattle.std.proofs.Common.{◌≡◌, ℕ, zero, suc, ◌<◌, ◌≤◌, ◌⊎◌, inl, inr, List, [], ◌∷◌, ◌++◌, length, slice_index, get_or, refl, sym, ◌∙◌, ap, arith}
use Rattle.std.proofs.lemmas.Bool.{cases_lt}
use Rattle.std.proofs.lemmas.Grind.{same_number_lists}
use Rattle.std.proofs.lemmas.List.{get_or_append_left, get_or_push, length-append}
use Rattle.mu_model.specs.declared.config.Config.{Config}
use Rattle.mu_model.specs.declared.event.Event.{Event}
use Rattle.mu_model.specs.Histories.{history}
use Rattle.mu_words.specs.declared.layout.Layout.{Layout}
use Rattle.mu_words.specs.declared.layout.Name.{Name}
use Rattle.mu_words.specs.Places.{IsName, place_of, word_count}
use Rattle.mu_words.specs.Standing.{standing_word}
use Rattle.mu_words.specs.Stands.{OneListStands, Stands}
use Rattle.mu_words.proofs.Places.{Named, every_place, places_differ_law, places_inside_law}
use Rattle.mu_words.proofs.Stand.{words_are_unique_law}

-- the words of the first k places
record FirstPlaces (c : Config) (l : Layout) (past : List Event) (k : ℕ) : Type 0 where
  words : List ℕ
  count : length words ≡ k
  stands : (n : Name) → IsName l n → place_of l n < k → get_or words (place_of l n) 0 ≡ standing_word c past n

-- one word more
one_more : (c : Config) (l : Layout) (past : List Event) (k : ℕ) → k < word_count l → FirstPlaces c l past k → FirstPlaces c l past (suc k)
one_more c l past k h f =
    let here = every_place l k h in
    record {
      words = f.words ++ standing_word c past here.name ∷ [];
      count = length-append f.words (standing_word c past here.name ∷ []) ∙ (let e = f.count in omega arith);
      stands = λ n is low. go n is (cases_lt (place_of l n) k) low here;
    }
  where
    go : (n : Name) → IsName l n → (place_of l n < k) ⊎ (k ≤ place_of l n) → place_of l n < suc k → (here : Named l k)
        → get_or (f.words ++ standing_word c past here.name ∷ []) (place_of l n) 0 ≡ standing_word c past n
    go n is (inl m) low here = get_or_append_left f.words (standing_word c past here.name ∷ []) 0 (place_of l n) (let e = f.count in omega arith) ∙ f.stands n is m
    go n is (inr m) low here =
        let at : place_of l n ≡ k = omega arith in
        let same : n ≡ here.name = places_differ_law l n here.name is here.is_name (at ∙ sym here.at) in
        get_or_push f.words (standing_word c past here.name) 0 (place_of l n) (f.count ∙ sym at) ∙ ap (standing_word c past) (sym same)

first_places : (c : Config) (l : Layout) (past : List Event) (k : ℕ) → k ≤ word_count l → FirstPlaces c l past k
first_places c l past zero h = record { words = []; count = refl; stands = λ n is low. absurd (omega arith) }
first_places c l past (suc k) h = one_more c l past k (omega arith) (first_places c l past k (omega arith))

pub one_list_stands_law : OneListStands
one_list_stands_law c l events =
    let all = first_places c l (history events) (word_count l) (omega arith) in
    let stands : Stands c l events (slice_index all.words) = λ n is. all.stands n is (places_inside_law l n is) in
    record {
      words = all.words;
      is = record { count = all.count; stands = stands };
      only = λ other is. same_number_lists other all.words (is.count ∙ sym all.count) (λ i low. words_are_unique_law c l events (slice_index other) (slice_index all.words) is.stands stands i (let e = is.count in omega arith));
    }
