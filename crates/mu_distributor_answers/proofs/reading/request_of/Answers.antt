use Rattle.std.proofs.Common.{List, Some, ap}
use Rattle.mu_model_distributor.specs.Requests.{Entry, ReceiversAdd}
use Rattle.mu_distributor_answers.proofs.Asked.{entries_are, start_is}
use Rattle.mu_distributor_answers.proofs.Ranges.{entries_fit, start_fits}
use Rattle.mu_distributor_answers.proofs.reading.request_of.Goals as goal

pub returns-in-ReceiversAdd-clause-asks : goal.returns-in-ReceiversAdd-clause-asks
returns-in-ReceiversAdd-clause-asks c = rw c.in-ReceiversAdd.is (ap (λ (l : List Entry). Some (ReceiversAdd l)) (entries_are c.in-ReceiversAdd.entries.items))

pub returns-in-DistributionStart-clause-asks : goal.returns-in-DistributionStart-clause-asks
returns-in-DistributionStart-clause-asks c =
    rw (c.in-DistributionStart.is, c.settings_to.ensures)
    (start_is c.in-DistributionStart.appkey c.in-DistributionStart.ttl c.in-DistributionStart.base c.in-DistributionStart.mode c.in-DistributionStart.policy c.in-DistributionStart.image c.in-DistributionStart.label c.in-DistributionStart.group)

pub returns-in-ReceiversAdd-clause-fits : goal.returns-in-ReceiversAdd-clause-fits
returns-in-ReceiversAdd-clause-fits c = let here = rw c.in-ReceiversAdd.is at c.requires.fits in entries_fit c.in-ReceiversAdd.entries.items here.0.2

pub returns-in-DistributionStart-clause-fits : goal.returns-in-DistributionStart-clause-fits
returns-in-DistributionStart-clause-fits c =
    let here = rw c.in-DistributionStart.is at c.requires.fits in
    rw c.settings_to.ensures
    (start_fits c.in-DistributionStart.appkey c.in-DistributionStart.ttl c.in-DistributionStart.base c.in-DistributionStart.mode c.in-DistributionStart.policy c.in-DistributionStart.image c.in-DistributionStart.label c.in-DistributionStart.group
    here)

pub returns-in-UploadStart-clause-fits : goal.returns-in-UploadStart-clause-fits
returns-in-UploadStart-clause-fits c =
    let here = rw c.in-UploadStart.is at c.requires.fits in
    record { ttl = here.0.0.1; base = here.0.1.0.1; id = here.0.1.1.0.1; metadata = c.metadata_fits.ensures }
