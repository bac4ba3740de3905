-- What the arguments of the program ask for. Assumes nothing.
use Rattle.std.specs.Prelude.{◌≡◌, ℕ, ◌+◌, ◌<◌, ◌≤◌, List, [], map, drop, string_bytes, length, Some, None, codes, Option, ◌≢◌, slice_index_or}
use Rattle.commands.specs.declared.command.Command.{Command}
use Rattle.commands.specs.declared.command.Command.TheVariants.{Demo, Compile, Load, Scan, Campaign}

-- text k of the arguments; the first one, text 0, is the program's own name
abbrev pub text : List (List ℕ) → ℕ → List ℕ
text texts k = slice_index_or texts k []

-- the word of a command, with n texts behind it
abbrev pub Says : List (List ℕ) → List ℕ → ℕ → Type 0
Says texts word n = (length texts ≡ 2 + n) × (text texts 1 ≡ word)

-- no such command
abbrev pub Silent : List (List ℕ) → List ℕ → ℕ → Type 0
Silent texts word n = length texts ≡ 2 + n → text texts 1 ≢ word

-- the command that the texts are; none where they are more than the program's name and no command
abbrev pub Asks : List (List ℕ) → Option Command → Type 0
Asks texts (Some Demo) = length texts ≤ 1
Asks texts (Some (Compile chart out)) =
    Says texts (codes "compile") 2 × (chart.now ≡ text texts 2) × (out.now ≡ text texts 3)
Asks texts (Some (Load path)) = Says texts (codes "load") 1 × (path.now ≡ text texts 2)
Asks texts (Some (Scan code frames)) =
    (3 ≤ length texts) × (text texts 1 ≡ codes "scan") × (code.now ≡ text texts 2)
    × (map string_bytes frames.now ≡ drop 3 texts)
Asks texts (Some (Campaign chart image calls)) =
    Says texts (codes "campaign") 3 × (chart.now ≡ text texts 2) × (image.now ≡ text texts 3) × (calls.now ≡ text texts 4)
Asks texts None = (1 < length texts) × Silent texts (codes "compile") 2 × Silent texts (codes "load") 1
    × Silent texts (codes "campaign") 3 × (3 ≤ length texts → text texts 1 ≢ codes "scan")
