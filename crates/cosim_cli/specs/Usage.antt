-- How the program's status tells words that are no command.
use Rattle.std.specs.Prelude.{ℕ, ◌≡◌, ◌+◌, ◌⊎◌, List, length, take}
use Rattle.statuses.specs.declared.status.Status.{Status}
use Rattle.statuses.specs.declared.status.Status.TheVariants as status
use Rattle.cosim_words.specs.Words.{IsCommand, Begins, IsFaulty}

-- Usage comes exactly where the words are no command, and shows where they stop being one.
abbrev pub Uses : List (List ℕ) → Status → Type 0
Uses words (status.Usage index) = IsFaulty words index
Uses words status.Done = IsCommand words
Uses words (status.Config e) = IsCommand words
Uses words (status.Input e) = IsCommand words
Uses words (status.Peer port e) = IsCommand words
Uses words (status.Outside o count) = IsCommand words
Uses words status.NoMemory = IsCommand words
Uses words (status.Child port e) = IsCommand words

-- Words before one that isn't UTF-8 stop being a command at this index, or at that word.
abbrev pub StopsAt : List (List ℕ) → Status → Type 0
StopsAt words (status.Usage index) = Begins (take index words)
    × ((Begins (take (index + 1) words) → ⊥) ⊎ (index ≡ length words))
StopsAt words status.Done = ⊥
StopsAt words (status.Config e) = ⊥
StopsAt words (status.Input e) = ⊥
StopsAt words (status.Peer port e) = ⊥
StopsAt words (status.Outside o count) = ⊥
StopsAt words status.NoMemory = ⊥
StopsAt words (status.Child port e) = ⊥
