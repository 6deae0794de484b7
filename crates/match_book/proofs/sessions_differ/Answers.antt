use Rattle.match_book.proofs.Session.{session_differs}
use Rattle.match_book.proofs.sessions_differ.Goals as goal

pub returns : goal.returns
returns c = λ commands session. session_differs commands session
