-- `text_encode::form::is_finite` meets its contract: the test is the definition's.
use mathlib.Core.Path.{refl}
use Rattle.text.specs.Form.{is_finite}
use Rattle.text_encode.proofs.form.is_finite.Goals as goal

pub returns : goal.returns
unfolding is_finite
returns c = refl
