-- `cinder_setting_find` is `setting_call`: the lookup's numbers as they are.
use mathlib.Core.Path.{ap, ◌∙◌}
use Rattle.cinder.specs.SettingCall.{setting_result, setting_call}
use Rattle.cinder.proofs.setting_call.cinder_setting_find.Goals as goal

pub returns : goal.returns
unfolding setting_call
returns c = c.from.ensures ∙ ap setting_result c.locate.ensures
