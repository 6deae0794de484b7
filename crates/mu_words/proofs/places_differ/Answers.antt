use Rattle.mu_words.proofs.Places.{places_differ_law, places_inside_law}
use Rattle.mu_words.proofs.places_differ.Goals as goal

pub returns-clause-differ : goal.returns-clause-differ
returns-clause-differ c = places_differ_law

pub returns-clause-inside : goal.returns-clause-inside
returns-clause-inside c = places_inside_law
