-- An event that reads no count of beats leaves what the scores say.
use Rattle.std.proofs.Common.{◌≡◌, ℕ, false, List, ◌∷◌, refl}
use Rattle.std.proofs.lemmas.Bool.{true≢false}
use Rattle.mu_model.specs.declared.config.Config.{Config}
use Rattle.mu_model.specs.declared.event.Answer.{Answer}
use Rattle.mu_model.specs.declared.event.Event.{Event}
use Rattle.mu_model.specs.declared.event.Verb.{Verb}
use Rattle.mu_model.specs.Histories.{event_by}
use Rattle.mu_detect.proofs.Peers.{others_kept}
use Rattle.mu_node.specs.declared.watch.Watch.{Watch}
use Rattle.mu_node.specs.Watch.{StandsForWatch, is_beat_read}

pub watch_kept : (c : Config) (r by : ℕ) (verb : Verb) (answer : Answer) (mine : List Event) (watch : Watch) → is_beat_read verb ≡ false → StandsForWatch c r mine watch → StandsForWatch c r (event_by by verb answer ∷ mine) watch
watch_kept c r by (Verb.ReadBeat q) answer mine watch other held = absurd (true≢false other)
watch_kept c r by verb answer mine watch other held = record {
  scores = others_kept c.replicas r mine watch.scores (event_by by verb answer) refl held.scores;
  named = held.named;
  failed = held.failed;
}
