-- The reading of the commands, one line at a time.
use Rattle.std.proofs.Common.{◌≡◌, ℕ, ◌+◌, List, ◌∷◌, length, sym, ap, ◌∙◌}
use Rattle.kv_store.specs.Commands.{Request}
use Rattle.mu_input.specs.Bodies.{body_line, body_after, body_from}
use Rattle.mu_text.specs.Lines.{Left, words}
use Rattle.mu_input.specs.Readings.{Line}
use Rattle.mu_input.specs.declared.bodies.BodyLine.{BodyLine}

-- what the lines give is what the first of them leads to
pub step : (clients : ℕ) (commands : List Request) (left after : Left) (line : List ℕ) (count : ℕ) (said : Line BodyLine)
    → left.lines ≡ line ∷ after.lines → after.number ≡ left.number + 1 → count ≡ length commands → body_line clients count (words line) ≡ said
    → body_from clients commands left.number left.lines ≡ body_after clients commands left.number after (λ clients commands. body_from clients commands after.number after.lines) said
step clients commands left after line count said first next all says =
    let goes = λ (said : Line BodyLine) (number : ℕ). body_after clients commands left.number (record { number = number; lines = after.lines }) (λ clients commands. body_from clients commands number after.lines) said in
    ap (body_from clients commands left.number) first
    ∙ ap (λ n. goes (body_line clients n (words line)) (left.number + 1)) (sym all)
    ∙ ap (goes (body_line clients count (words line))) (sym next)
    ∙ ap (λ said. goes said after.number) says
