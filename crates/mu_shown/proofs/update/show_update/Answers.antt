use Rattle.mu_shown.proofs.update.show_update.Goals as goal

pub returns-in-InformationGet : goal.returns-in-InformationGet
returns-in-InformationGet g c = rw c.in-InformationGet.is (c.put_line.ensures _ c.information_get.ensures)

pub returns-in-InformationStatus : goal.returns-in-InformationStatus
returns-in-InformationStatus g c = rw c.in-InformationStatus.is (c.put_line-in-InformationStatus.ensures _ c.information_status.ensures)

pub returns-in-MetadataCheck : goal.returns-in-MetadataCheck
returns-in-MetadataCheck g c = rw c.in-MetadataCheck.is (c.put_line-in-MetadataCheck.ensures _ c.metadata_check.ensures)

pub returns-in-MetadataStatus : goal.returns-in-MetadataStatus
returns-in-MetadataStatus g c = rw c.in-MetadataStatus.is (c.put_line-in-MetadataStatus.ensures _ c.metadata_status.ensures)

pub returns-in-UpdateStart : goal.returns-in-UpdateStart
returns-in-UpdateStart g c = rw c.in-UpdateStart.is (c.put_line-in-UpdateStart.ensures _ c.update_start.ensures)

pub returns-in-UpdateStatus : goal.returns-in-UpdateStatus
returns-in-UpdateStatus g c = rw c.in-UpdateStatus.is (c.put_line-in-UpdateStatus.ensures _ c.update_status.ensures)
