-- The values that are put stand for batches or marks, so they have room in a slot word.
use Rattle.std.proofs.Common.{◌≡◌, ℕ, ◌/◌, ◌%◌, ◌<◌, inl, inr, ◌&&◌, ◌==◌, List, ◌+◌, arith, Some, nat_lt}
use Rattle.std.specs.List.{slice_get}
use Rattle.std.proofs.lemmas.Bool.{and_parts, ltb-true}
use Rattle.mu_model.specs.declared.config.Config.{Config}
use Rattle.mu_model.specs.declared.event.Event.{Event}
use Rattle.mu_model.specs.declared.event.Verb.{Verb}
use Rattle.mu_model.specs.Allowed.{Needs}
use Rattle.mu_model.specs.Contents.{StandsForEntry, begins_batch, row_count}
use Rattle.mu_model.specs.Histories.{part}
use Rattle.mu_model.specs.Legal.{IsLegalHistory}
use Rattle.mu_model.specs.Regions.{region_log}
use Rattle.mu_agree.proofs.Landed.{landed_facts}
use Rattle.mu_agree.proofs.Sessions.{fits_stands}
use Rattle.mu_agree.proofs.Sound.{all_sound, landed_tried, put_sound}
use Rattle.mu_words.proofs.Limits.{Limits}
use Rattle.mu_model.proofs.Putting.{put_facts}

-- seven times 4,096 payload numbers
below_seven : (c : Config) (v : ℕ) → Limits c → StandsForEntry c v → v < 28672
below_seven c v l (inl batch) =
    let low = ltb-true (v / 4096) c.replicas (and_parts (nat_lt (v / 4096) c.replicas) (nat_lt (v % 4096) (row_count c) && begins_batch c (v % 4096)) batch).0 in
    let few = l.replicas in
    omega arith
below_seven c v l (inr mark) =
    let low = ltb-true (v / 4096) c.replicas (and_parts (nat_lt (v / 4096) c.replicas) ((c.version == 2) && (nat_lt mark.0 c.replicas && (v % 4096 == 4080 + mark.0))) mark.1).0 in
    let few = l.replicas in
    omega arith

-- a value that may be put
pub put_small : (c : Config) (r p i b v : ℕ) (past : List Event) → Limits c → IsLegalHistory c past → Needs c r (part r past) (Verb.PutSlot p i b v) → v < 28672
put_small c r p i b v past l h may =
    let sound = put_sound c r p i b v past h (all_sound c past h) (put_facts c r (part r past) p i b v may) in
    below_seven c v l (fits_stands c v sound.values past sound.fits)

-- the value of an entry
pub log_small : (c : Config) (p : ℕ) (past : List Event) → Limits c → IsLegalHistory c past → (i : ℕ) (y : ℕ × ℕ) → slice_get (region_log p past) i ≡ Some y → y.1 < 28672
log_small c p past l h i y there =
    let sound = all_sound c past h i y.1 (landed_tried p i y.0 y.1 past ((landed_facts c p past h).in_log i y.0 y.1 there)) in
    below_seven c y.1 l (fits_stands c y.1 sound.values past sound.fits)
