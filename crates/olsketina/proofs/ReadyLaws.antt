-- The ready-made words say the ready-made settings. Assumes nothing.
use mathlib.Core.Path.{◌≡◌, refl, subst}
use lib.IntN.{ℤ}
use Rattle.std.specs.Prelude.{Option, Ok}
use Rattle.refusal.proofs.CheckLaws.{given-ok}
use Rattle.lut.specs.declared.Table.{Table}
use Rattle.lut.specs.declared.Table.TheVariants.{X, Y}
use Rattle.lut.specs.declared.LutSettings.{LutSettings}
use Rattle.camera.specs.Ready.{ready_settings, ready_answer}
use Rattle.olsketina.specs.Tables.{says}
use Rattle.olsketina.specs.Lookups.{table_named, settings_from}
use Rattle.olsketina.specs.Ready.{mode_number, table_word, fed_back}

named_back : (t : Table) → table_named (says (table_word t)) ≡ t
named_back X = refl
named_back Y = refl

settings-back : (select : ℤ) (priority overflow underflow : Option Table) → fed_back (ready_settings select priority overflow underflow) ≡ ready_settings select priority overflow underflow
unfolding settings_from mode_number ready_settings
settings-back select priority overflow underflow = rw (named_back _, named_back _, named_back _)

pub ready-back : (select : ℤ) (priority overflow underflow : Option Table) (s : LutSettings) → ready_answer select priority overflow underflow ≡ Ok s → fed_back s ≡ s
unfolding ready_answer
ready-back select priority overflow underflow s e =
    subst (λ (x : LutSettings). fed_back x ≡ x) (given-ok _ _ _ e).1 (settings-back select priority overflow underflow)
