use Rattle.cd_run.proofs.TaskLaws.{block_tops, merged_tops}
use Rattle.cd_run.proofs.task.do_task.Goals as goal

pub do_block-requires-clause-tops : goal.do_block-requires-clause-tops
do_block-requires-clause-tops g c _ _ = block_tops c.args.task.now c.in-Block.id c.in-Block.parent _ _ _ c.in-Block.is c.as_slice-in-Block.ensures c.requires.within

pub do_merged-requires-clause-tops : goal.do_merged-requires-clause-tops
do_merged-requires-clause-tops g c _ _ = merged_tops c.args.task.now c.in-Merged.id c.in-Merged.left c.in-Merged.right _ _ _ c.in-Merged.is c.as_slice-in-Merged.ensures c.requires.within
