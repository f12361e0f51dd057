-- How storing a listed state ends, by what the opened core answered.
use Rattle.std.proofs.Common.{◌≡◌, ℕ, Bool, false, List, [], Option, Some, Result, Ok, Err, refl, sym, ap, ◌∙◌, subst, cond, inl, inr}
use Rattle.cd_base.specs.declared.hash.Hash256.{Hash256}
use Rattle.cd_base.specs.declared.sink.Sink.{Ghosts as SinkGhosts}
use Rattle.cd_base.specs.Counts.{Rose}
use Rattle.cd_block.specs.declared.block.BlockId.{BlockId}
use Rattle.cd_cell.specs.PreparedView.{PreparedView}
use Rattle.cd_cell.specs.Tree.{Tree, rep_of}
use Rattle.cd_keeper.specs.declared.keeper.Keeper.{Ghosts as KeeperGhosts}
use Rattle.cd_event.specs.declared.answers.Stored.{Stored}
use Rattle.cd_event.specs.declared.entry.Entry.{Entry}
use Rattle.cd_event.specs.declared.entry.Reply.{Reply}
use Rattle.cd_event.specs.declared.entry.Reply.TheVariants as reply
use Rattle.cd_event.specs.declared.event.Event.TheVariants.{Zero}
use Rattle.cd_event.specs.declared.faults.ZeroFault.{ZeroFault}
use Rattle.cd_event.specs.declared.faults.ZeroFault.TheVariants as zero
use Rattle.cd_event.specs.declared.refusal.Refusal.TheVariants as store
use Rattle.cd_event.specs.Replies.{entries_of, zero_refusal, zero_reply}
use Rattle.cd_event.specs.Turning.{is_keeper, RisesOnly}
use Rattle.cd_world.specs.Told.{ToldWorld, told_replay, made}
use Rattle.cd_world.proofs.PinsStay.{same_id-self}
use Rattle.cd_command.specs.declared.status.Status.{Status}
use Rattle.cd_command.specs.declared.status.Status.TheVariants as status
use Rattle.cd_command.specs.Printing.{HasGot, HasFailed, PrintingEnds}
use Rattle.cd_command.specs.Opening.{IsUnopenedBy, LeadsTo}
use Rattle.cd_zero.specs.declared.name.ZeroName.{ZeroName}
use Rattle.cd_zero.specs.Storing.{TellingEnds}
use Rattle.cd_command.specs.Naming.{first_task}
use Rattle.cd_zero.specs.Zero.{zero_id, zero_text, status_by_store, state_at, IsListOf}
use Rattle.cd_zero.specs.ZeroCall.{IsEntry, IsStored, StoringEnds}
use Rattle.cd_zero.proofs.FirstStores.{first-stored}

-- the block that was stored has its state
stored-state : (H : List ℕ → Hash256) (X : Type 0) (t : ToldWorld) (id : BlockId) (p : PreparedView) (state : Tree) → made H p [] ≡ state
    → state_at (told_replay H {X = X} t (entries_of first_task (Zero id [] p) (Some reply.Stored))) id ≡ state
stored-state H X t id p state stands = ap (λ b. cond b (made H p []) (t.state id)) (same_id-self id) ∙ stands

module _ (H : List ℕ → Hash256) {K O X : Type 0} (k : KeeperGhosts K) (o : SinkGhosts O) (name : ZeroName) (state : Tree) where
  -- what isn't opened isn't stored
  pub unopened-ends : (journal : List (Entry X)) (out : O) (keeper keeper_after : K) (end : Status) → IsUnopenedBy H k keeper keeper_after end → journal ≡ []
      → StoringEnds H k name state o journal out out keeper keeper_after end
  unopened-ends journal out keeper keeper_after (status.Damaged fault) un none = (un, none, refl)
  unopened-ends journal out keeper keeper_after status.KeeperFault un none = (inl (none, un.1), un.0, refl)
  unopened-ends journal out keeper keeper_after status.Memory un none = (record { entries = none; left = inl un.1 }, un.0, refl)
  unopened-ends journal out keeper keeper_after status.Ok un none = absurd un
  unopened-ends journal out keeper keeper_after (status.Usage fault) un none = un
  unopened-ends journal out keeper keeper_after (status.BadInput fault) un none = un
  unopened-ends journal out keeper keeper_after status.ReadFault un none = un
  unopened-ends journal out keeper keeper_after status.WriteFault un none = absurd un
  unopened-ends journal out keeper keeper_after status.ClientFault un none = absurd un
  unopened-ends journal out keeper keeper_after (status.Refused refusal) un none = absurd un

  module _ (listed : PreparedView) (lists : IsListOf H state listed) (journal : List (Entry X)) (out out_after : O) (keeper keeper_after : K)
      (leads : LeadsTo H k journal keeper keeper_after) (before : ℕ) (same_before : before ≡ k.faults keeper) where
    abbrev entries : Option Reply → List (Entry X)
    entries answer = entries_of first_task (Zero (zero_id name (rep_of H state)) [] listed) answer

    entry : (answer : Reply) → journal ≡ entries (Some answer) → IsEntry H k name state answer journal keeper keeper_after
    entry answer is = record { listed = listed; lists = lists; is = is; leads = leads }

    stored : journal ≡ entries (Some reply.Stored) → k.faults keeper_after ≡ k.faults keeper → IsStored H k name state journal keeper keeper_after
    stored is steady = record {
      entry = entry reply.Stored is;
      has = λ t. (let whole = lists.whole in
          ap (λ es. state_at (told_replay H t es) (zero_id name (rep_of H state))) is ∙ stored-state H X t (zero_id name (rep_of H state)) listed state whole.stands);
      first = (let whole = lists.whole in first-stored H k journal keeper keeper_after leads first_task (zero_id name (rep_of H state)) listed state whole.stands is);
      steady = steady;
    }

    printed : (text : List ℕ) (end : Status) → text ≡ zero_text H name state → IsStored H k name state journal keeper keeper_after
        → PrintingEnds o text out out_after end → StoringEnds H k name state o journal out out_after keeper keeper_after end
    printed text status.Ok is so done = (so, subst (λ t. HasGot o t out out_after) is done)
    printed text status.WriteFault is so done = (so, subst (λ t. HasFailed o t out out_after) is done)
    printed text (status.Usage fault) is so done = absurd done
    printed text (status.BadInput fault) is so done = absurd done
    printed text (status.Damaged fault) is so done = absurd done
    printed text status.ReadFault is so done = absurd done
    printed text status.KeeperFault is so done = absurd done
    printed text status.ClientFault is so done = absurd done
    printed text (status.Refused refusal) is so done = absurd done
    printed text status.Memory is so done = absurd done

    steady-of : {failed : Bool} → RisesOnly failed before (k.faults keeper_after) → failed ≡ false → k.faults keeper_after ≡ k.faults keeper
    steady-of cause is = cause.steady is ∙ same_before

    unstored : (fault : ZeroFault) → journal ≡ entries (zero_reply (Err fault)) → RisesOnly (is_keeper (zero_reply (Err fault))) before (k.faults keeper_after)
        → out_after ≡ out → StoringEnds H k name state o journal out out_after keeper keeper_after (status_by_store (zero_refusal fault))
    unstored zero.Known is cause same = (entry (reply.Refused store.Known) is, λ e. cc, steady-of cause refl, same)
    unstored (zero.Lineage fault) is cause same = (entry (reply.Refused (store.Lineage fault)) is, λ e. cc, steady-of cause refl, same)
    unstored (zero.ZeroHash stated real) is cause same = (entry (reply.Refused (store.ZeroHash stated real)) is, λ e. cc, steady-of cause refl, same)
    unstored (zero.Clash hash there offered) is cause same = (entry (reply.Refused (store.Clash hash there offered)) is, λ e. cc, steady-of cause refl, same)
    unstored (zero.CountFull hash count) is cause same = (entry (reply.Refused (store.CountFull hash count)) is, λ e. cc, steady-of cause refl, same)
    unstored zero.Keeper is cause same = (inr (entry (reply.Refused store.Keeper) is), subst (λ n. Rose n (k.faults keeper_after)) same_before (cause.rose refl), same)
    unstored zero.Memory is cause same = (record { entries = is; left = inr leads }, steady-of cause refl, same)

    pub storing-ends : (id : BlockId) (text : List ℕ) (answer : Result Stored ZeroFault) (end : Status) → id ≡ zero_id name (rep_of H state) → text ≡ zero_text H name state
        → journal ≡ entries_of first_task (Zero id [] listed) (zero_reply answer) → RisesOnly (is_keeper (zero_reply answer)) before (k.faults keeper_after)
        → TellingEnds o text answer out out_after end → StoringEnds H k name state o journal out out_after keeper keeper_after end
    storing-ends id text (Ok given) end named spelt is cause told =
        printed text end spelt (stored (is ∙ ap (λ (i : BlockId). entries_of first_task (Zero i [] listed) (Some reply.Stored)) named) (steady-of cause refl)) told
    storing-ends id text (Err fault) end named spelt is cause told =
        subst (StoringEnds H k name state o journal out out_after keeper keeper_after) (sym told.0)
        (unstored fault (is ∙ ap (λ (i : BlockId). entries_of first_task (Zero i [] listed) (zero_reply (Err fault))) named) cause told.1)
