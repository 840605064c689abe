-- The two versions of a record as the code names them.
use Rattle.plan.specs.declared.form.Version.{Version}
use Rattle.plan.specs.declared.form.Version.TheVariants.{One, Two}
use Rattle.plan.specs.Said.{Form, one, two}

abbrev pub form_in : Version → Form
form_in One = one
form_in Two = two
