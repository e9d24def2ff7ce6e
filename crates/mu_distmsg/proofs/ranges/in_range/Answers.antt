use Rattle.mu_distmsg.specs.declared.message.DistMsg.TheVariants.{DistributionStatus}
use Rattle.mu_distmsg.proofs.Fit.{in_range_of}
use Rattle.mu_distmsg.proofs.ranges.in_range.Goals as goal

pub returns-in-DistributionStatus : goal.returns-in-DistributionStatus
returns-in-DistributionStatus c =
    rw c.in-DistributionStatus.is (in_range_of (DistributionStatus c.in-DistributionStatus.status c.in-DistributionStatus.phase c.in-DistributionStatus.group c.in-DistributionStatus.appkey c.in-DistributionStatus.ttl c.in-DistributionStatus.base c.in-DistributionStatus.mode c.in-DistributionStatus.policy c.in-DistributionStatus.image) c.distribution_status.result tt c.distribution_status.ensures)
