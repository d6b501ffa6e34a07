-- The help text: a line for each command.
use Rattle.std.specs.Prelude.{ℕ, ◌≡◌, List, [], ◌∷◌, codes}
use Rattle.std.specs.List.{concat}
use Rattle.outcomes.specs.Outcomes.{Outcome, Works}

abbrev pub help_text : List ℕ
help_text = concat (
    codes "direct CONFIG\n"
    ∷ codes "local CONFIG [schedule N | steps FILE] [capture FILE]\n"
    ∷ codes "run CONFIG PROGRAM [capture FILE]\n"
    ∷ codes "device SOCKET null\n"
    ∷ codes "device SOCKET timer LINE\n"
    ∷ codes "device SOCKET CONFIG PORT\n"
    ∷ codes "show FILE\n"
    ∷ codes "pack FILE\n"
    ∷ codes "check CAPTURE CONFIG\n"
    ∷ codes "gen N\n"
    ∷ codes "asm FILE OUT\n"
    ∷ codes "dis FILE\n"
    ∷ codes "help\n"
    ∷ codes "migrate CAPTURE OUT\n"
    ∷ codes "relay MACHINE DEVICE RECORD\n"
    ∷ codes "relayed CONFIG\n"
    ∷ codes "save CONFIG UNITS FILE\n"
    ∷ codes "resume CONFIG FILE\n"
    ∷ [])

-- What `help` comes to. It refuses nothing.
abbrev pub Helps : Outcome ⊥ → Type 0
Helps o = o ≡ Works [] help_text
