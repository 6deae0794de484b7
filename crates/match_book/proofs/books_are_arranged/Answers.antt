use Rattle.match_book.proofs.Arranging.{arranged_in_order, arranged_permutes, arrival_kept}
use Rattle.match_book.proofs.books_are_arranged.Goals as goal

pub returns : goal.returns
returns c = λ book. record { same = arranged_permutes book; in_order = arranged_in_order book; by_arrival = λ order. arrival_kept order book }
