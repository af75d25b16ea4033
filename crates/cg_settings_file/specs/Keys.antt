-- The keys that a table may have.
use Rattle.std.specs.Prelude.{ℕ, ◌||◌, Bool, List, codes, bytes_eq, Option, Some, None, if◌then◌else◌}
use Rattle.toml.specs.Data.{Members, no_members, member}

-- keys of the cluster, the endpoint and the files of a node, and of its seeds
unfoldable pub is_text_key : List ℕ → Bool
is_text_key key =
    bytes_eq key (codes "cluster") || (bytes_eq key (codes "listen") || (bytes_eq key (codes "generation_file")
    || (bytes_eq key (codes "journal") || bytes_eq key (codes "seeds"))))

-- keys of the turns: rounds, exchanges, the interval between rounds, and the seed of the random words
unfoldable pub is_turn_key : List ℕ → Bool
is_turn_key key =
    bytes_eq key (codes "rounds") || (bytes_eq key (codes "exchanges")
    || (bytes_eq key (codes "interval") || bytes_eq key (codes "random")))

-- keys of the numbers that judge silence
unfoldable pub is_silence_key : List ℕ → Bool
is_silence_key key =
    bytes_eq key (codes "window") || (bytes_eq key (codes "initial_gap")
    || (bytes_eq key (codes "max_gap") || bytes_eq key (codes "threshold")))

-- a key that has a meaning
unfoldable pub is_known : List ℕ → Bool
is_known key = is_text_key key || (is_turn_key key || is_silence_key key)

-- the first key that has no meaning
unfoldable pub unknown_in : Members → Option (List ℕ)
unknown_in no_members = None
unknown_in (member key value table) = if is_known key then unknown_in table else Some key
