-- Trusted: what is printed of a feed: a line for the feed, and one for each of its tasks.
use Rattle.std.specs.Prelude.{◌≡◌, ◌⊎◌, ℕ, ◌+◌, List, [], ◌∷◌, ◌++◌, length, None, codes}
use Rattle.std.specs.List.{sum_by}
use Rattle.std.specs.Fmt.{decimal}
use Rattle.cd_block.specs.Spelling.{id_text}
use Rattle.cd_feed.specs.declared.feed.Task.{Task}
use Rattle.cd_feed.specs.declared.feed.Task.TheVariants.{Zero, Block, Expire, Read, Slice, Serve, Merged}
use Rattle.cd_feed.specs.declared.feed.Phase.{Phase}
use Rattle.cd_feed.specs.declared.feed.Feed.{Feed}
use Rattle.cd_feed.specs.declared.feed_fault.FeedFault.{FeedFault}
use Rattle.inspect_lines.specs.Lines.{IsLineOf}
use Rattle.inspect_feed.specs.FeedVerdicts.{IsFeedOf, IsWhyNoFeed}

-- what a task is: its kind, its ids and its sizes
abbrev pub said_text : Task → List ℕ
said_text (Zero id tops bag) =
    codes "zero " ++ id_text id ++ codes " tops " ++ decimal (length tops) ++ codes " bag " ++ decimal (length bag)
said_text (Block id parent tops bag) =
    codes "block " ++ id_text id ++ codes " parent " ++ id_text parent
    ++ codes " tops " ++ decimal (length tops) ++ codes " bag " ++ decimal (length bag)
said_text (Expire id) = codes "expire " ++ id_text id
said_text (Read id path) = codes "read " ++ id_text id ++ codes " path " ++ decimal (length path)
said_text (Slice id max) = codes "slice " ++ id_text id ++ codes " max " ++ decimal max
said_text (Serve id max) = codes "serve " ++ id_text id ++ codes " max " ++ decimal max
said_text (Merged id left right tops bag) =
    codes "merged " ++ id_text id ++ codes " left " ++ id_text left ++ codes " right " ++ id_text right
    ++ codes " tops " ++ decimal (length tops) ++ codes " bag " ++ decimal (length bag)

-- the parts of some items in a row, each of which has its number, from this one on
abbrev pub numbered : {X : Type 0} → (ℕ → X → List ℕ) → ℕ → List X → List ℕ
numbered part n [] = []
numbered part n (x ∷ xs) = part n x ++ numbered part (n + 1) xs

-- the line of a task, which has the numbers of its phase, its worker and itself
abbrev pub task_line : ℕ → ℕ → ℕ → Task → List ℕ
task_line phase worker number task =
    decimal phase ++ codes "." ++ decimal worker ++ codes "." ++ decimal number ++ codes " " ++ said_text task ++ 10 ∷ []

abbrev pub worker_lines : ℕ → ℕ → List Task → List ℕ
worker_lines phase worker tasks = numbered (task_line phase worker) 0 tasks

abbrev pub phase_lines : ℕ → Phase → List ℕ
phase_lines phase p = numbered (worker_lines phase) 0 p.workers

-- how many tasks a phase has, and how many a feed
abbrev pub phase_tasks : Phase → ℕ
phase_tasks p = sum_by length p.workers

abbrev pub feed_tasks : Feed → ℕ
feed_tasks feed = sum_by phase_tasks feed.phases

-- the line of a feed, and those of its tasks by phase, worker and place
abbrev pub feed_lines : Feed → List ℕ
feed_lines feed =
    (codes "ok phases " ++ decimal (length feed.phases) ++ codes " tasks " ++ decimal (feed_tasks feed) ++ 10 ∷ [])
    ++ numbered phase_lines 0 feed.phases

-- the lines of the feed that bytes are, or a line for their first field at fault
abbrev pub TellsFeed : List ℕ → List ℕ → Type 0
TellsFeed bytes text =
    ((feed : Feed) × IsFeedOf bytes feed × (text ≡ feed_lines feed))
    ⊎ ((fault : FeedFault) × IsWhyNoFeed bytes fault × IsLineOf None text)
