-- One answer only: an answer that can be had back from what it says is the only one that says it. Assumes nothing.
use mathlib.Core.Path.{◌≡◌, sym, ap, ◌∙◌}
use Rattle.rules.specs.Given.{Once}

pub once : {A B : Type 0} (given : A → B) (back : B → A) → ((r : A) → back (given r) ≡ r) → Once given
once given back e x r s p q = sym (e r) ∙ ap back (p ∙ sym q) ∙ e s
