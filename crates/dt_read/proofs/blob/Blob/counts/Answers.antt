use Rattle.dt_read.proofs.CountLemmas.{nodes_so, properties_so}
use Rattle.dt_read.proofs.blob.Blob.counts.Goals as goal

pub returns-clause-nodes : goal.returns-clause-nodes
returns-clause-nodes c = nodes_so _ _ c.self.view_is _ _ c.count_tokens-nodes.ensures.nodes c.start.ensures.tokens

pub returns-clause-properties : goal.returns-clause-properties
returns-clause-properties c = properties_so _ _ c.self.view_is _ _ c.count_tokens-nodes.ensures.properties c.start.ensures.tokens
