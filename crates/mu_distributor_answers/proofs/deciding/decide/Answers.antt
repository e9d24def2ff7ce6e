use Rattle.mu_distributor_answers.proofs.deciding.decide.Goals as goal

pub returns-in-DistributionStart : goal.returns-in-DistributionStart
returns-in-DistributionStart c = rw c.in-DistributionStart.is (c.start.ensures c.args.rows.now.items)

pub returns-in-DistributionSuspend : goal.returns-in-DistributionSuspend
returns-in-DistributionSuspend c = rw c.in-DistributionSuspend.is (c.suspend.ensures c.args.rows.now.items)

pub returns-in-DistributionCancel : goal.returns-in-DistributionCancel
returns-in-DistributionCancel c = rw c.in-DistributionCancel.is (c.cancel.ensures c.args.rows.now.items)

pub returns-in-DistributionApply : goal.returns-in-DistributionApply
returns-in-DistributionApply c = rw c.in-DistributionApply.is (c.apply.ensures c.args.rows.now.items)

pub returns-in-StartUpload : goal.returns-in-StartUpload
returns-in-StartUpload c = rw c.in-StartUpload.is (c.start_upload.ensures c.args.rows.now.items)

pub returns-in-UploadCancel : goal.returns-in-UploadCancel
returns-in-UploadCancel c = rw c.in-UploadCancel.is (c.cancel_upload.ensures c.args.rows.now.items)

pub returns-in-FirmwareDelete : goal.returns-in-FirmwareDelete
returns-in-FirmwareDelete c = rw c.in-FirmwareDelete.is (c.delete.ensures c.args.rows.now.items)

pub returns-in-FirmwareDeleteAll : goal.returns-in-FirmwareDeleteAll
returns-in-FirmwareDeleteAll c = rw c.in-FirmwareDeleteAll.is (c.delete_all.ensures c.args.rows.now.items)
