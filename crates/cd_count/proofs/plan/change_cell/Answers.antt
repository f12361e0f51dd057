use Rattle.std.proofs.Common.{ℕ, List, [], ◌∷◌, ◌++◌, Vec, Global, sym, subst}
use Rattle.cd_base.specs.declared.hash.Hash256.{Hash256}
use Rattle.cd_base.specs.Numbers.{IsBytes}
use Rattle.cd_keeper.specs.Shown.{entries_of, hash_bytes}
use Rattle.cd_count.specs.PlanRows.{AreOfBytes}
use Rattle.cd_count.proofs.plan.change_cell.Goals as goal

-- one entry of bytes more
bytes-push : (es : List (Hash256 × Vec ℕ Global)) (e : Hash256 × Vec ℕ Global) → AreOfBytes (entries_of hash_bytes es) → IsBytes e.1.items
    → AreOfBytes (entries_of hash_bytes (es ++ e ∷ []))
bytes-push [] e are is = (is, tt)
bytes-push (x ∷ es) e are is = (are.0, bytes-push es e are.1 is)

pub returns-clause-bytes : goal.returns-clause-bytes
returns-clause-bytes c = λ are.
    subst (λ es. AreOfBytes (entries_of hash_bytes es)) (sym (c.in_ok-push-2.ensures.items))
    (bytes-push c.args.puts.now.items (c.args.hash.now, c.in_ok-text.text) are
    (subst IsBytes c.as_slice.ensures.value c.tell_bytes.ensures))
