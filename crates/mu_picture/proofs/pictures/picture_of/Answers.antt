use Rattle.std.proofs.Common.{◌≡◌, ◌<◌, ◌≤◌, ◌+◌, ◌∙◌, ap, length, sym, subst, arith, take, refl}
use Rattle.std.specs.Prelude.{min}
use Rattle.mu_model.specs.Histories.{history}
use Rattle.mu_picture.specs.Marks.{EndsInPlace, legal_front, marks_of}
use Rattle.mu_picture.specs.Openings.{openings_of}
use Rattle.mu_outcome.specs.Breaks.{reached}
use Rattle.mu_picture.proofs.Fronts.{came_to, front_low, front_size, front_start}
use Rattle.mu_picture.proofs.Unmarked.{hidden_marks}
use Rattle.mu_picture.proofs.Steps.{length_openings}
use Rattle.mu_picture.proofs.pictures.picture_of.Goals as goal

pub returns-clause-lanes : goal.returns-clause-lanes
returns-clause-lanes c =
    let config = c.args.config.now in
    let past = history (take (reached c.pass-before.result c.min-first.result) c.args.events.now) in
    let are : length c.in_ok-openings.openings.items ≡ config.replicas = ap length (c.in_ok-openings.ensures past config c.args.script.now refl c.pass-before.ensures.passed.stands) ∙ length_openings config c.args.script.now config.replicas past in
    omega (arith, are, c.requires.config.replicas.1)

pub returns-clause-hidden : goal.returns-clause-hidden
returns-clause-hidden c =
    let events = c.args.events.now in
    let broken = c.in_ok-broken.broken in
    let rows = c.fill.new.self in
    let held = c.in_ok-broken.ensures.holds in
    hidden_marks c.args.config.now c.args.script.now rows.brief (legal_front events broken) rows.first rows.end rows.marks.items held.order (omega (arith, held.within)) held.marks

pub returns-clause-picture : goal.returns-clause-picture
returns-clause-picture c =
    let config = c.args.config.now in
    let script = c.args.script.now in
    let events = c.args.events.now in
    let extent = c.args.extent in
    let broken = c.in_ok-broken.broken in
    let rows = c.fill.new.self in
    let held = c.in_ok-broken.ensures.holds in
    let asked = c.in_ok-broken.ensures.asked in
    let fresh = c.new-rows.ensures in
    let explains = c.in_ok-broken.ensures.explains in
    let front = legal_front events broken in
    let size = front_size config events broken explains in
    let low = front_low config events broken explains in
    let within : rows.first ≤ length front = omega (arith, held.order, held.within) in
    let to : c.min-asked.result ≡ min (extent.last + 1) (length events) = c.min-asked.ensures in
    let came : c.reached.result ≡ reached broken (length events) = c.reached.ensures in
    let all : c.min.result ≡ min c.min-asked.result c.reached.result = c.min.ensures in
    let first : rows.first ≡ reached c.pass-before.result c.min-first.result = asked.first ∙ fresh.first ∙ c.reached-first.ensures in
    let least : c.min-first.result ≡ min extent.first c.min-asked.result = c.min-first.ensures in
    let place : min rows.asked (length front) ≡ c.min.result = omega (arith, asked.asked, fresh.asked, all, came, size) in
    let past = history (take (reached c.pass-before.result c.min-first.result) events) in
    record {
      brief = asked.brief ∙ fresh.brief;
      asked = omega (arith, to, all, came, size, low);
      first = omega (arith, first, least, to, size, low, within, c.pass-before.ensures.within, came_to config events c.pass-before.result broken c.min-first.result explains c.in_ok-broken.ensures.before);
      order = held.order;
      end = omega (arith, held.within, place);
      openings = c.in_ok-openings.ensures past config script refl c.pass-before.ensures.passed.stands
          ∙ ap (λ l. openings_of config script config.replicas (history l)) (ap (λ n. take n events) (sym first) ∙ sym (front_start config events broken rows.first explains within));
      marks = held.marks ∙ ap (λ b. marks_of config script b rows.first (history (take rows.end front))) (asked.brief ∙ fresh.brief);
      rows = held.held.placed;
      ends = subst (λ y. EndsInPlace config script front extent.brief c.min.result y rows.end) (ap (λ k. k.y) held.held.cursor)
          (subst (λ n. EndsInPlace config script front extent.brief n rows.cursor.y rows.end) place
          (subst (λ b. EndsInPlace config script front b (min rows.asked (length front)) rows.cursor.y rows.end) (asked.brief ∙ fresh.brief) held.ends));
    }
