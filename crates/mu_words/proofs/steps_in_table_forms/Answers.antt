use Rattle.mu_words.proofs.Forms.{steps_in_table_forms_law}
use Rattle.mu_words.proofs.steps_in_table_forms.Goals as goal

pub returns : goal.returns
returns c = steps_in_table_forms_law
