-- A fabric of words keeps what it kept when its configuration gets one row more.
use Rattle.std.proofs.Common.{ℕ, ◌≤◌, List, [], ◌∷◌, slice_index, subst, sym}
use Rattle.mu_model.specs.declared.config.Config.{Config}
use Rattle.mu_model.specs.declared.event.Event.{Event}
use Rattle.mu_model.specs.Contents.{IsConfig, row_count}
use Rattle.mu_model.specs.Growing.{with_more}
use Rattle.mu_model.specs.Histories.{history, part}
use Rattle.mu_agree.proofs.Growing.{legal_stays_law}
use Rattle.mu_words.specs.declared.found.Found.{Found}
use Rattle.mu_words.specs.declared.layout.Layout.{Layout}
use Rattle.mu_words.proofs.Growing.{founds_stay_law, words_stay_law}
use Rattle.mu_port.specs.Growing.{IsGrown}
use Rattle.word_fabric.specs.Kept.{IsWordsKept}

pub kept_grown : (c grown : Config) (events : List Event) (room : ℕ) (l : Layout) (ws : List ℕ) (fs : List Found) → IsGrown c grown → IsConfig grown → row_count grown ≤ l.rows
    → IsWordsKept c events room l ws fs → IsWordsKept grown events room l ws fs
kept_grown c grown events room l ws fs g good fits kept = subst (λ k. IsWordsKept k events room l ws fs) (sym g.is) (record {
  given = new;
  laid_out = record { replicas = kept.laid_out.replicas; ring = kept.laid_out.ring; rows = subst (λ k. row_count k ≤ l.rows) g.is fits };
  legal = legal_stays_law c (g.row ∷ []) events kept.given new kept.legal;
  room_left = kept.room_left;
  all_words = kept.all_words;
  stands = words_stay_law c (g.row ∷ []) l events (slice_index ws) kept.stands;
  all_founds = kept.all_founds;
  holds = λ r f there. founds_stay_law c (g.row ∷ []) r f (part r (history events)) (history events) (kept.holds r f there);
})
  where
    new : IsConfig (with_more c (g.row ∷ []))
    new = subst IsConfig g.is good
